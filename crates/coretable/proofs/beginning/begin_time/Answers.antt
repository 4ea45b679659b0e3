use Rattle.flowdir.specs.Boundary.{charge_by}
use Rattle.coretable.specs.Held.{StandsFor}
use Rattle.std.proofs.Common.{[], refl, subst, sym, ◌+◌}
use Rattle.streamdefs.specs.Convo.Act.{Time}
use Rattle.convo.specs.Talk.{IsWantOf}
use Rattle.coretable.specs.Course.{begun}
use Rattle.coretable.specs.Standing.{beside, entry_for}
use Rattle.coretable.proofs.Soundness.{at_rest}
use Rattle.coretable.proofs.BeginLemmas.{ready_taken}
use Rattle.coretable.proofs.StepLemmas.{step_after, begins}
use Rattle.coretable.specs.Steps.{nothing}
use Rattle.coretable.specs.Weighed.{weight_of_active}
use Rattle.convo.specs.Weights.{weight_of_want}
use Rattle.convo.specs.Standing.{weight_of_convo}
use Rattle.coretable.proofs.beginning.begin_time.Goals as goal

pub returns-in-Ok-time-clause-turn : goal.returns-in-Ok-time-clause-turn
returns-in-Ok-time-clause-turn g c t last handler m o set s e k at s' =
    let a = c.active_of-active.ensures in
    let ready = ready_taken (StandsFor (charge_by g.C.Charge.amount g.C.Charge.stamp) t) (charge_by g.C.Charge.amount g.C.Charge.stamp) t m c.args.place o (Time c.args.at [] []) c.args.desk.now c.take_out.new.desk c.active_of-active.result
    c.in-Ok.taken.number c.in-Ok.taken.clock c.in-Ok.taken.talk c.in-Ok-time.want (at_rest t last handler m s e).rises e k at refl refl c.in-Ok.ensures.taken c.take_out.ensures.slots c.take_out.ensures.rest
    a.0 a.1 a.2 refl (λ i. entry_for (a.3 i) (a.4 i) (a.5 i))
    (λ owed st. subst (λ y. IsWantOf (charge_by g.C.Charge.amount g.C.Charge.stamp) (StandsFor (charge_by g.C.Charge.amount g.C.Charge.stamp) t y) t (beside o.convo owed) (Time c.args.at [] []) 0 c.in-Ok-time.want) (sym a.6)
    (c.in-Ok-time.ensures.turn t (beside o.convo owed) set st)) in
    c.settle.ensures.turn t last handler (begun m (record { conv = o.id; act = Time c.args.at [] [] })) ready.u set s' ready.keeps ready.active ready.fresh ready.turn

pub returns-in-Ok-time-clause-step : goal.returns-in-Ok-time-clause-step
returns-in-Ok-time-clause-step g c =
    step_after (charge_by g.C.Charge.amount g.C.Charge.stamp) c.args.set.now.marks.limit c.args.desk.now c.take_out.new.desk c.settle.new.desk nothing (λ w. weight_of_active w c.active_of-active.result + weight_of_want w c.in-Ok-time.want) c.settle.result
    (begins c.args.desk.now c.take_out.new.desk c.in-Ok.taken.talk c.time.new.self c.active_of-active.result c.in-Ok-time.want c.take_out.ensures.rest (λ w. c.in-Ok.ensures.size (weight_of_convo w)) c.in-Ok-time.ensures.weight c.active_of-active.ensures.6)
    (c.settle.ensures.step c.in-Ok-time.ensures.within)
