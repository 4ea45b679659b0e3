use Rattle.std.proofs.Common.{sym, subst, ◌≤◌}
use Rattle.flowdir.specs.Kept.{working_for}
use Rattle.flowdir.proofs.Sound.{kept_noted}
use Rattle.flowdir.proofs.dir.Dir.note.Goals as goal

pub invariant_of-self : goal.invariant_of-self
invariant_of-self g c = (
  kept_noted c.self.inside.last c.args.head.last c.self.inside.store.room c.self.inside.passed.lane c.self.inside.store.frags (working_for c.self.inside.work) c.self.invariant.0 (subst (λ k. k.last ≤ c.args.head.last) (sym c.self.view_is) c.requires.last.0) c.requires.last.1,
  c.self.invariant.1,
  c.requires.sent,
  c.self.invariant.3,
  c.self.invariant.4,
)
