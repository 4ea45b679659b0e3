use Rattle.std.proofs.Common.{sym, ◌∙◌}
use Rattle.linewords.specs.Words.{words}
use Rattle.linewords.proofs.SplitLemmas.{nothing_left}
use Rattle.linewords.proofs.WordLemmas.{word_here, no_word_here}
use Rattle.linewords.proofs.words.word.Goals as goal

pub returns-in-None : goal.returns-in-None
returns-in-None c = nothing_left c.args.line.now ∙ sym (no_word_here (words c.args.line.now) c.args.i (sym c.skip_words.ensures ∙ c.in-None.ensures.word))

pub returns-in-Some : goal.returns-in-Some
returns-in-Some c = sym (word_here (words c.args.line.now) c.args.i _ _ (sym c.skip_words.ensures ∙ c.in-Some.ensures.word))
