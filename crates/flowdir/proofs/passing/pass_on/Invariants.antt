use Rattle.std.proofs.Common.{◌≡◌, ℕ, ◌^◌, length}
use Rattle.std.specs.Prelude.{List}
use Rattle.reorder.specs.Frags.{Frag, Ascends}
use Rattle.flowdir.specs.Lane.{Lane}
use Rattle.flowdir.specs.Passing.{jumps_by, Passes, weight_of_all}
use Rattle.reorder.specs.Frags.{EndBy}
use Rattle.flowdir.proofs.passing.pass_on.Given as goal

abbrev pub invariant-loop-next : goal.invariant-loop-next
invariant-loop-next g l = record {
  on : (lane' : Lane g.row.C.Denot) (rest : List (Frag g.row.C.Denot)) → Passes (jumps_by l.rule) l.moment l.from l.passed.lane l.store.frags lane' rest
      → Passes (jumps_by l.fn.rule) l.fn.moment l.fn.start l.fn.passed.lane l.fn.store.frags lane' rest;
  ascends : Ascends l.passed.lane.front l.store.frags;
  near : EndBy (2 ^ 62) l.store.frags;
  weight : (w : g.row.C.Denot → ℕ) → weight_of_all w l.passed.lane l.store.frags ≡ weight_of_all w l.fn.passed.lane l.fn.store.frags;
}

abbrev pub decreases-loop-next : goal.decreases-loop-next
decreases-loop-next g l = length l.store.frags
