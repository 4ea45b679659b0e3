use Rattle.std.proofs.Common.{sym, subst}
use Rattle.flowdir.specs.Kept.{IsLive, working_for}
use Rattle.flowdir.proofs.Sound.{ends_near}
use Rattle.flowdir.proofs.dir.Dir.finish.Goals as goal

pub advance-requires-clause-near : goal.advance-requires-clause-near
advance-requires-clause-near g c =
    ends_near c.self.inside.last c.self.inside.store.room c.self.inside.passed.lane c.self.inside.store.frags (working_for c.self.inside.work) (subst (λ k. IsLive k.work) (sym c.self.view_is) c.requires.live) c.self.invariant.0
