use Rattle.std.proofs.Common.{◌≡◌, drop}
use Rattle.linewords.specs.Words.{words}
use Rattle.linewords.proofs.words.skip_words.Given as goal

abbrev pub invariant-loop-passed : goal.invariant-loop-passed
invariant-loop-passed l = words l.left ≡ drop l.passed (words l.line)
