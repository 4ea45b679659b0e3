use Rattle.flowdir.specs.Boundary.{charge_by}
use Rattle.coretable.specs.Held.{StandsFor}
use Rattle.std.proofs.Common.{subst, sym, ◌+◌, ◌∙◌, ap}
use Rattle.convo.specs.declared.talk.Convo.{Convo}
use Rattle.convo.specs.Talk.Phase.{Under as UnderWay}
use Rattle.streamdefs.specs.Core.{found_by}
use Rattle.coretable.specs.Course.{core_of}
use Rattle.coretable.specs.Standing.{beside}
use Rattle.coretable.specs.declared.active.Active.{Active}
use Rattle.coretable.proofs.AnswerLemmas.{ready_freed}
use Rattle.coretable.proofs.StepLemmas.{step_after, same_moved, step_left}
use Rattle.coretable.specs.Weighed.{weight_of_active}
use Rattle.convo.specs.Weights.{weight_of_want}
use Rattle.coretable.proofs.answering.go_on_freed.Goals as goal

pub returns-in-Ok-tell_free-clause-turn : goal.returns-in-Ok-tell_free-clause-turn
returns-in-Ok-tell_free-clause-turn g c t last handler m s set l =
    let ready = ready_freed (charge_by g.C.Charge.amount g.C.Charge.stamp) (StandsFor (charge_by g.C.Charge.amount g.C.Charge.stamp) t) t m c.args.desk.now c.args.active c.put_free.new.active c.tell_free.new.active c.args.free c.in-Ok-tell_free.want l
    c.in-Ok.ensures.frees c.put_free.ensures.rest c.tell_free.ensures.rest
    (λ owed st. c.in-Ok-tell_free.ensures.turn t (beside (found_by (core_of t l.before) l.at.u.line) owed) l.at.u.line.act l.at.u.emitted c.args.free l.charge set
    (subst (λ (a : Active (Convo g.row.C.Denot)). StandsFor (charge_by g.C.Charge.amount g.C.Charge.stamp) t a.talk (beside (found_by (core_of t l.before) l.at.u.line) owed) (UnderWay l.at.u.line.act l.at.u.emitted)) (sym c.put_free.ensures.rest) st) l.at.wants) in
    c.settle.ensures.turn t last handler m ready.u set s ready.keeps ready.active ready.fresh ready.turn

pub returns-in-Ok-tell_free-clause-step : goal.returns-in-Ok-tell_free-clause-step
returns-in-Ok-tell_free-clause-step g c =
    step_after (charge_by g.C.Charge.amount g.C.Charge.stamp) c.args.set.now.marks.limit c.args.desk.now c.args.desk.now c.settle.new.desk (λ w. weight_of_active w c.args.active) (λ w. weight_of_active w c.tell_free.new.active + weight_of_want w c.in-Ok-tell_free.want) c.settle.result
    (same_moved c.args.desk.now (λ w. weight_of_active w c.args.active) (λ w. weight_of_active w c.tell_free.new.active + weight_of_want w c.in-Ok-tell_free.want) (λ w. c.in-Ok-tell_free.ensures.weight w ∙ ap (weight_of_active w) c.put_free.ensures.rest)) (c.settle.ensures.step c.in-Ok-tell_free.ensures.within)

pub returns-in_default-clause-step : goal.returns-in_default-clause-step
returns-in_default-clause-step g c =
    step_left (charge_by g.C.Charge.amount g.C.Charge.stamp) c.args.set.now.marks.limit c.args.desk.now c.args.desk.now (λ w. weight_of_active w c.args.active) c.of.result
    (same_moved c.args.desk.now (λ w. weight_of_active w c.args.active) _ (λ w. c.of.ensures.weight w ∙ ap (weight_of_active w) c.put_free.ensures.rest))

pub returns-in-Err-clause-step : goal.returns-in-Err-clause-step
returns-in-Err-clause-step g c =
    step_left (charge_by g.C.Charge.amount g.C.Charge.stamp) c.args.set.now.marks.limit c.args.desk.now c.args.desk.now (λ w. weight_of_active w c.args.active) c.of-in-Err.result
    (same_moved c.args.desk.now (λ w. weight_of_active w c.args.active) _ (λ w. c.of-in-Err.ensures.weight w ∙ c.in-Err.ensures.err w ∙ ap (weight_of_active w) c.put_free.ensures.rest))
