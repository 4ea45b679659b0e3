use Rattle.std.proofs.Common.{◌∙◌, ap, subst}
use Rattle.reorder.specs.Frags.{Ascends}
use Rattle.flowdir.specs.Kept.{working_for, GivesNext}
use Rattle.flowdir.proofs.Sound.{kept_idle}
use Rattle.flowdir.proofs.EndSteps.{end_step}
use Rattle.flowdir.proofs.Lefts.{end_adds}
use Rattle.flowdir.proofs.dir.Dir.close.Goals as goal

pub returns-clause-step : goal.returns-clause-step
returns-clause-step g c = λ paid t d pieces h.
    end_step paid c.args.self.now c.give_next.new.self c.give_next.result t d c.args.at pieces c.requires.idle h
    (subst (λ k. Ascends k.lane.front k.frags) c.self.view_is
    (kept_idle c.self.inside.last c.self.inside.store.room c.self.inside.passed.lane c.self.inside.store.frags (working_for c.self.inside.work) (ap (λ k. k.work) c.self.view_is ∙ c.requires.idle) c.self.invariant.0).ascends)
    (subst (λ k. GivesNext k c.give_next.new.self c.give_next.result) c.in_ok-finish_end.ensures.ended c.give_next.ensures.gives)

pub returns-clause-left : goal.returns-clause-left
returns-clause-left g c =
    end_adds c.args.at c.args.self.now c.give_next.new.self c.give_next.result c.requires.idle
    (subst (λ k. GivesNext k c.give_next.new.self c.give_next.result) c.in_ok-finish_end.ensures.ended c.give_next.ensures.gives)
