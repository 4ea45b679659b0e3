use Rattle.std.specs.Prelude.{map, option_map}
use Rattle.flowdir.specs.Lane.{gap_for, bundle_for}
use Rattle.flowdir.proofs.Draining.{open_drained}
use Rattle.flowdir.proofs.passed.Passed.drain_chunk.Goals as goal

pub invariant_of-self : goal.invariant_of-self
invariant_of-self g c = (
  open_drained c.self.inside.front (map gap_for c.self.inside.gaps.items) c.self.inside.copy (option_map bundle_for c.self.inside.chunk) _ c.self.invariant.0 c.drain_open.ensures.sooner c.drain_open.ensures.lone,
  c.self.invariant.1,
)
