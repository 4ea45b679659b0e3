use Rattle.std.proofs.Common.{◌≡◌, ◌+◌, ◌≤◌, length}
use Rattle.linewords.specs.Words.{words}
use Rattle.linewords.proofs.words.count_words.Given as goal

abbrev pub invariant-loop-behind : goal.invariant-loop-behind
invariant-loop-behind l =
    record {
      words : length (words l.line) ≡ l.count + length (words l.left);
      fits : l.count + length l.left ≤ length l.line;
    }

abbrev pub decreases-loop-behind : goal.decreases-loop-behind
decreases-loop-behind l = length l.left
