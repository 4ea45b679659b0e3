use Rattle.std.proofs.Common.{length, ◌-◌, ◌≡◌, ◌≤◌, ◌<◌, get_or, true, ℕ}
use Rattle.capfilter.specs.Tokens.{is_plain}
use Rattle.capfilter.proofs.token.skip_plain.Given as goal

abbrev pub invariant-loop-at : goal.invariant-loop-at
invariant-loop-at l =
    record {
      behind : l.from ≤ l.at;
      within : l.at ≤ length l.text;
      plain : (i : ℕ) → l.from ≤ i → i < l.at → is_plain (get_or l.text i 0) ≡ true;
    }

abbrev pub decreases-loop-at : goal.decreases-loop-at
decreases-loop-at l = length l.text - l.at
