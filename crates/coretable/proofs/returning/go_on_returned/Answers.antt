use Rattle.flowdir.specs.Boundary.{charge_by}
use Rattle.coretable.specs.Held.{StandsFor}
use Rattle.std.proofs.Common.{inl, subst, sym, ◌+◌}
use Rattle.convo.specs.Talk.{IsWantOf}
use Rattle.coretable.specs.Standing.{talk_before}
use Rattle.coretable.proofs.ReturnLemmas.{active_again}
use Rattle.coretable.proofs.StepLemmas.{step_after, same_moved}
use Rattle.coretable.specs.Weighed.{weight_of_active}
use Rattle.convo.specs.Weights.{weight_of_want, weight_of_chunks}
use Rattle.coretable.proofs.returning.go_on_returned.Goals as goal

pub returns-in-Ok-clause-turn : goal.returns-in-Ok-clause-turn
returns-in-Ok-clause-turn g c t last handler m s set l =
    c.settle.ensures.turn t last handler m l.u set s l.keeps (active_again t m l.u c.args.active c.tell_back.new.active c.tell_back.ensures.rest l.active) (inl l.none)
    (subst (λ n. IsWantOf (charge_by g.C.Charge.amount g.C.Charge.stamp) (StandsFor (charge_by g.C.Charge.amount g.C.Charge.stamp) t c.tell_back.new.active.talk) t (talk_before t m l.u) l.u.line.act n c.in-Ok.want) (sym l.none)
    (subst (λ act. IsWantOf (charge_by g.C.Charge.amount g.C.Charge.stamp) (StandsFor (charge_by g.C.Charge.amount g.C.Charge.stamp) t c.tell_back.new.active.talk) t (talk_before t m l.u) act 0 c.in-Ok.want) (sym l.line)
    (c.in-Ok.ensures.turn t (talk_before t m l.u) l.event l.number l.frees l.talk l.answers)))

pub returns-in-Ok-clause-step : goal.returns-in-Ok-clause-step
returns-in-Ok-clause-step g c =
    step_after (charge_by g.C.Charge.amount g.C.Charge.stamp) c.args.set.now.marks.limit c.args.desk.now c.args.desk.now c.settle.new.desk (λ w. weight_of_active w c.args.active + weight_of_chunks w c.args.kept) (λ w. weight_of_active w c.tell_back.new.active + weight_of_want w c.in-Ok.want) c.settle.result
    (same_moved c.args.desk.now (λ w. weight_of_active w c.args.active + weight_of_chunks w c.args.kept) (λ w. weight_of_active w c.tell_back.new.active + weight_of_want w c.in-Ok.want) (λ w. c.in-Ok.ensures.weight w)) (c.settle.ensures.step (c.in-Ok.ensures.within c.args.set.now.marks.limit))
