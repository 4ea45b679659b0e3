use Rattle.std.proofs.Common.{◌≡◌, ◌≤◌, ◌-◌, take, length, ℕ, ◌<◌, get_or}
use Rattle.capfilter.specs.Numbers.{numbers, parts}
use Rattle.capfilter.specs.Addresses.{separator, number_in, most_in}
use Rattle.capfilter.proofs.AddressLemmas.{in_front}
use Rattle.capfilter.proofs.address.read_numbers.Given as goal

-- the numbers so far, in front of those of what is left
abbrev pub invariant-parts : goal.invariant-parts
invariant-parts l =
    record {
      within : l.count ≤ l.most;
      each : (i : ℕ) → i < l.count → get_or l.into i 0 ≤ most_in l.style;
      so_far : numbers l.most (number_in l.style) (parts (separator l.style) l.text)
          ≡ in_front (take l.count l.into) (numbers (l.most - l.count) (number_in l.style) (parts (separator l.style) l.rest));
    }

abbrev pub decreases-parts : goal.decreases-parts
decreases-parts l = length l.rest
