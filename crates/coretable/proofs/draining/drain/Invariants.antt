use Rattle.std.proofs.Common.{ℕ, ◌≡◌, ◌+◌, length}
use Rattle.coretable.specs.Weighed.{weight_of_desk, weight_of_hand}
use Rattle.coretable.proofs.draining.drain.Given as goal

abbrev pub invariant-loop-charge : goal.invariant-loop-charge
invariant-loop-charge g l = record {
  rest : l.desk ≡ record l.fn.desk { slots = l.desk.slots };
  weight : (w : g.row.C.Denot → ℕ) → weight_of_desk w l.desk + weight_of_hand w l.hand ≡ weight_of_desk w l.fn.desk + weight_of_hand w l.fn.hand;
}

abbrev pub decreases-loop-charge : goal.decreases-loop-charge
decreases-loop-charge g l = length l.desk.slots.items
