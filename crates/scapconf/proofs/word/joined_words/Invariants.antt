use Rattle.std.proofs.Common.{◌≡◌, ◌++◌, length}
use Rattle.linewords.specs.Words.{words}
use Rattle.scapconf.specs.Lines.{joined}
use Rattle.scapconf.proofs.WordLemmas.{spaced}
use Rattle.scapconf.proofs.word.joined_words.Given as goal

abbrev pub invariant-loop-word : goal.invariant-loop-word
invariant-loop-word l = joined (words l.line) ≡ l.text.items ++ spaced (words l.left)

abbrev pub decreases-loop-word : goal.decreases-loop-word
decreases-loop-word l = length l.left
