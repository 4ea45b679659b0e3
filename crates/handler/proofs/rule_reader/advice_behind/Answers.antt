use Rattle.std.proofs.Common.{◌∙◌, ap, ◌≡◌, drop, ℕ}
use Rattle.linewords.specs.Words.{words}
use Rattle.handler.specs.Parts.{condition_words}
use Rattle.handler.proofs.AdviceLemmas.{none_there, with_some}
use Rattle.handler.proofs.rule_reader.advice_behind.Goals as goal

pub returns-in-None : goal.returns-in-None
returns-in-None c =
    let behind : words c.skip_words-behind.result.now ≡ drop (condition_words c.args.condition.now) (words c.args.line.now)
    = c.skip_words-behind.ensures ∙ ap (λ (n : ℕ). drop n (words c.args.line.now)) c.words.ensures in
    λ x says. none_there _ _ behind c.in-None.ensures.word says.some

pub returns-in-Some : goal.returns-in-Some
returns-in-Some c =
    let behind : words c.skip_words-behind.result.now ≡ drop (condition_words c.args.condition.now) (words c.args.line.now)
    = c.skip_words-behind.ensures ∙ ap (λ (n : ℕ). drop n (words c.args.line.now)) c.words.ensures in
    with_some _ _ _ _ _ _ _ c.is_of_data.ensures behind c.in-Some.ensures.word c.advice_of.ensures
