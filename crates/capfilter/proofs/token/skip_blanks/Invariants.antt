use Rattle.std.proofs.Common.{length, ◌-◌, ◌≡◌, ◌≤◌, drop}
use Rattle.capfilter.specs.Tokens.{tokens}
use Rattle.capfilter.proofs.token.skip_blanks.Given as goal

abbrev pub invariant-loop-at : goal.invariant-loop-at
invariant-loop-at l =
    record {
      behind : l.from ≤ l.at;
      within : l.at ≤ length l.text;
      same : tokens l.from (drop l.from l.text) ≡ tokens l.at (drop l.at l.text);
    }

abbrev pub decreases-loop-at : goal.decreases-loop-at
decreases-loop-at l = length l.text - l.at
