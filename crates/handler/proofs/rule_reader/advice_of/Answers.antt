use Rattle.std.proofs.Common.{◌≡◌, Some, None, sym, ◌∙◌}
use Rattle.linewords.specs.Words.{word_at, words}
use Rattle.handler.specs.Reader.{part}
use Rattle.handler.proofs.AdviceLemmas.{at_word, some_word, no_part, says_less, forth_step, back_step}
use Rattle.handler.proofs.rule_reader.advice_of.Goals as goal

pub returns-in_err-part : goal.returns-in_err-part
returns-in_err-part c =
    let left = words c.loop-name.left.now in
    let none : None ≡ part (word_at 0 left) (word_at 1 left) = at_word left _ _ _ _ c.in-Some.ensures.word c.word.ensures c.in_err-part.ensures in
    rw c.from_residual.ensures (λ x says. no_part c.args.of_data c.loop-name.advice left x (some_word left _ _ c.in-Some.ensures.word) (sym none) (c.loop-name.invariant.back x says))

pub returns-then-not-is_fresh : goal.returns-then-not-is_fresh
returns-then-not-is_fresh c =
    let left = words c.loop-name.left.now in
    let here : Some c.in_ok-part.part ≡ part (word_at 0 left) (word_at 1 left) = at_word left _ _ _ _ c.in-Some.ensures.word c.word.ensures c.in_ok-part.ensures in
    λ x says.
    let less = says_less c.args.of_data c.loop-name.advice left c.in_ok-part.part x (some_word left _ _ c.in-Some.ensures.word) (sym here) (c.loop-name.invariant.back x says) in
    let fresh = less.0 in
    let told = c.is_fresh.ensures in
    let stale = c.if-not-is_fresh.true in
    cc

pub loop-name-preserved : goal.loop-name-preserved
loop-name-preserved c =
    let left = words c.loop-name.left.now in
    let here : Some c.in_ok-part.part ≡ part (word_at 0 left) (word_at 1 left) = at_word left _ _ _ _ c.in-Some.ensures.word c.word.ensures c.in_ok-part.ensures in
    let told = c.is_fresh.ensures in
    let fresh = c.if-not-is_fresh.false in
    record {
      forth = λ x says. c.loop-name.invariant.forth x
          (forth_step c.args.of_data c.loop-name.advice c.added-advice.result left _ c.in_ok-part.part c.words.result x (sym here) (sym told ∙ fresh) c.added-advice.ensures c.words.ensures c.skip_words-left.ensures says);
      back = λ x says.
          back_step c.args.of_data c.loop-name.advice c.added-advice.result left _ c.in_ok-part.part c.words.result x (some_word left _ _ c.in-Some.ensures.word) (sym here)
          c.added-advice.ensures c.words.ensures c.skip_words-left.ensures (c.loop-name.invariant.back x says);
    }
