use Rattle.std.proofs.Common.{◌≡◌, ℕ, length}
use Rattle.std.specs.Prelude.{map}
use Rattle.flowdir.specs.Lane.{bundle_for, weight_of_bundles}
use Rattle.flowdir.proofs.passed.drain_closed.Given as goal

abbrev pub invariant-chunks : goal.invariant-chunks
invariant-chunks g l = (w : g.row.C.Denot → ℕ) → weight_of_bundles w (map bundle_for l.closed.items) ≡ weight_of_bundles w (map bundle_for l.fn.closed.items)

abbrev pub decreases-chunks : goal.decreases-chunks
decreases-chunks g l = length l.closed.items
