use Rattle.flowdir.specs.Kept.{working_for}
use Rattle.flowdir.proofs.Sound.{few_next}
use Rattle.flowdir.proofs.dir.Dir.asked.Goals as goal

pub next_bytes-requires : goal.next_bytes-requires
next_bytes-requires g c = few_next c.self.inside.last c.self.inside.store.room c.self.inside.passed.lane c.self.inside.store.frags (working_for c.self.inside.work) c.self.invariant.0
