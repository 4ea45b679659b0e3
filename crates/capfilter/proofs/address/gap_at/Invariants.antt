use Rattle.std.proofs.Common.{◌≡◌, take, drop}
use Rattle.capfilter.specs.Addresses.{round_gap}
use Rattle.capfilter.proofs.AddressLemmas.{onto_front}
use Rattle.capfilter.proofs.address.gap_at.Given as goal

-- no gap begins in the front
abbrev pub invariant-loop-at : goal.invariant-loop-at
invariant-loop-at l = round_gap l.text ≡ onto_front (take l.at l.text) (round_gap (drop l.at l.text))
