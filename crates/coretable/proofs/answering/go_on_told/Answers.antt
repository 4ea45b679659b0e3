use Rattle.flowdir.specs.Boundary.{charge_by, weight_of}
use Rattle.coretable.specs.Held.{StandsFor}
use Rattle.std.proofs.Common.{subst, sym, ◌+◌, ◌∙◌, ap}
use Rattle.convo.specs.declared.talk.Convo.{Convo}
use Rattle.convo.specs.Talk.Phase.{Under as UnderWay}
use Rattle.streamdefs.specs.Core.{found_by}
use Rattle.coretable.specs.Course.{core_of}
use Rattle.coretable.specs.Standing.{beside}
use Rattle.coretable.specs.declared.active.Active.{Active}
use Rattle.coretable.proofs.AnswerLemmas.{ready_told}
use Rattle.coretable.proofs.StepLemmas.{step_after, same_moved, step_left}
use Rattle.coretable.specs.Weighed.{weight_of_active}
use Rattle.convo.specs.Weights.{weight_of_want}
use Rattle.coretable.proofs.answering.go_on_told.Goals as goal

pub returns-in-Ok-tell-clause-turn : goal.returns-in-Ok-tell-clause-turn
returns-in-Ok-tell-clause-turn g c t last handler m s set l =
    let ready = ready_told (charge_by g.C.Charge.amount g.C.Charge.stamp) (StandsFor (charge_by g.C.Charge.amount g.C.Charge.stamp) t) t m c.args.desk.now c.args.active c.put_look.new.active c.tell.new.active c.args.look c.args.granted c.in-Ok-tell.want l
    c.in-Ok.ensures.looks c.put_look.ensures.rest c.tell.ensures.rest
    (λ owed st. c.in-Ok-tell.ensures.turn t (beside (found_by (core_of t l.before) l.at.u.line) owed) l.at.u.line.act l.at.u.emitted c.args.look l.request l.mark set
    (subst (λ (a : Active (Convo g.row.C.Denot)). StandsFor (charge_by g.C.Charge.amount g.C.Charge.stamp) t a.talk (beside (found_by (core_of t l.before) l.at.u.line) owed) (UnderWay l.at.u.line.act l.at.u.emitted)) (sym c.put_look.ensures.rest) st) l.at.wants l.answers) in
    c.settle.ensures.turn t last handler m ready.u set s ready.keeps ready.active ready.fresh ready.turn

pub returns-in-Ok-tell-clause-step : goal.returns-in-Ok-tell-clause-step
returns-in-Ok-tell-clause-step g c =
    step_after (charge_by g.C.Charge.amount g.C.Charge.stamp) c.args.set.now.marks.limit c.args.desk.now c.args.desk.now c.settle.new.desk (λ w. weight_of_active w c.args.active + weight_of w c.args.granted) (λ w. weight_of_active w c.tell.new.active + weight_of_want w c.in-Ok-tell.want) c.settle.result
    (same_moved c.args.desk.now (λ w. weight_of_active w c.args.active + weight_of w c.args.granted) (λ w. weight_of_active w c.tell.new.active + weight_of_want w c.in-Ok-tell.want) (λ w. c.in-Ok-tell.ensures.weight w ∙ ap (λ a. weight_of_active w a + weight_of w c.args.granted) c.put_look.ensures.rest)) (c.settle.ensures.step c.in-Ok-tell.ensures.within)

pub returns-in_default-clause-step : goal.returns-in_default-clause-step
returns-in_default-clause-step g c =
    step_left (charge_by g.C.Charge.amount g.C.Charge.stamp) c.args.set.now.marks.limit c.args.desk.now c.args.desk.now (λ w. weight_of_active w c.args.active + weight_of w c.args.granted) c.with_charge.result
    (same_moved c.args.desk.now (λ w. weight_of_active w c.args.active + weight_of w c.args.granted) _ (λ w. c.with_charge.ensures w ∙ ap (λ a. weight_of_active w a + weight_of w c.args.granted) c.put_look.ensures.rest))

pub returns-in-Err-clause-step : goal.returns-in-Err-clause-step
returns-in-Err-clause-step g c =
    step_left (charge_by g.C.Charge.amount g.C.Charge.stamp) c.args.set.now.marks.limit c.args.desk.now c.args.desk.now (λ w. weight_of_active w c.args.active + weight_of w c.args.granted) c.with_charge-in-Err.result
    (same_moved c.args.desk.now (λ w. weight_of_active w c.args.active + weight_of w c.args.granted) _ (λ w. c.with_charge-in-Err.ensures w ∙ c.in-Err.ensures.err w ∙ ap (λ a. weight_of_active w a + weight_of w c.args.granted) c.put_look.ensures.rest))
