use Rattle.std.proofs.Common.{sym, ◌∙◌, ap, subst}
use Rattle.flowdir.specs.Kept.{IsLive, working_for}
use Rattle.streamdefs.specs.View.{always}
use Rattle.flowdir.proofs.Sound.{ends_near, kept_ended}
use Rattle.flowdir.proofs.dir.Dir.finish_end.Goals as goal

pub pass_on-requires-clause-near : goal.pass_on-requires-clause-near
pass_on-requires-clause-near g c =
    ends_near c.self.inside.last c.self.inside.store.room c.self.inside.passed.lane c.self.inside.store.frags (working_for c.self.inside.work) (subst (λ k. IsLive k.work) (sym c.self.view_is) c.requires.live) c.self.invariant.0

pub invariant_of-self-2 : goal.invariant_of-self-2
invariant_of-self-2 g c = (
  kept_ended always c.args.at c.front-front.result c.self.inside.last c.self.inside.store.room c.pass_on.new.store.room c.self.inside.passed.lane c.pass_on.new.passed.lane c.spare_copy.new.self.lane
      c.self.inside.store.frags c.pass_on.new.store.frags (working_for c.self.inside.work) (subst (λ k. IsLive k.work) (sym c.self.view_is) c.requires.live) c.self.invariant.0
      c.in_ok-pass_on.ensures.passes (ap (λ x. x.front) c.in_ok-spare_copy.ensures.ok ∙ ap (λ x. x.front) c.in_ok-close_chunk.ensures.ok),
  tt,
  c.self.invariant.2,
  c.self.invariant.3,
  tt,
)
