use Rattle.flowdir.specs.Boundary.{charge_by}
use Rattle.coretable.specs.Held.{StandsFor}
use Rattle.streamdefs.specs.Core.{found_by}
use Rattle.coretable.specs.Course.{core_of}
use Rattle.coretable.specs.Standing.{beside}
use Rattle.coretable.proofs.AnswerLemmas.{ready_emitted}
use Rattle.coretable.proofs.StepLemmas.{step_after, same_moved}
use Rattle.coretable.specs.Weighed.{weight_of_active}
use Rattle.convo.specs.Weights.{weight_of_want}
use Rattle.std.proofs.Common.{◌+◌}
use Rattle.coretable.proofs.answering.go_on_emitted.Goals as goal

pub returns-in-Ok-clause-turn : goal.returns-in-Ok-clause-turn
returns-in-Ok-clause-turn g c t last handler m s set l =
    let ready = ready_emitted (charge_by g.C.Charge.amount g.C.Charge.stamp) (StandsFor (charge_by g.C.Charge.amount g.C.Charge.stamp) t) t m c.args.desk.now c.args.active c.tell_event.new.active c.in-Ok.want l
    c.tell_event.ensures.rest
    (λ owed st. c.in-Ok.ensures.turn t (beside (found_by (core_of t l.before) l.u.line) owed) l.u.line.act l.u.emitted l.event set st l.wants) in
    c.settle.ensures.turn t last handler m ready.u set s ready.keeps ready.active ready.fresh ready.turn

pub returns-in-Ok-clause-step : goal.returns-in-Ok-clause-step
returns-in-Ok-clause-step g c =
    step_after (charge_by g.C.Charge.amount g.C.Charge.stamp) c.args.set.now.marks.limit c.args.desk.now c.args.desk.now c.settle.new.desk (λ w. weight_of_active w c.args.active) (λ w. weight_of_active w c.tell_event.new.active + weight_of_want w c.in-Ok.want) c.settle.result
    (same_moved c.args.desk.now (λ w. weight_of_active w c.args.active) (λ w. weight_of_active w c.tell_event.new.active + weight_of_want w c.in-Ok.want) (λ w. c.in-Ok.ensures.weight w)) (c.settle.ensures.step c.in-Ok.ensures.within)
