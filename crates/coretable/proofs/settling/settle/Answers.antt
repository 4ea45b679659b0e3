use Rattle.flowdir.specs.Boundary.{charge_by}
use Rattle.coretable.specs.Held.{StandsFor}
use Rattle.std.proofs.Common.{subst, ap, sym, ◌+◌}
use Rattle.convo.specs.Talk.{IsWantOf}
use Rattle.coretable.specs.Standing.{talk_before}
use Rattle.coretable.proofs.StepLemmas.{no_more, put_as}
use Rattle.coretable.specs.Weighed.{weight_of_active}
use Rattle.convo.specs.Weights.{weight_of_want, weight_of_event}
use Rattle.convo.specs.Standing.{IsAskWithin}
use Rattle.coretable.proofs.settling.settle.Goals as goal

pub returns-in-Rest-clause-turn : goal.returns-in-Rest-clause-turn
returns-in-Rest-clause-turn g c t last handler m u set s k act f turn =
    c.settle_rest.ensures.turn t last handler m u set s k act f
    (subst (λ w. IsWantOf (charge_by g.C.Charge.amount g.C.Charge.stamp) (StandsFor (charge_by g.C.Charge.amount g.C.Charge.stamp) t c.args.active.talk) t (talk_before t m u) u.line.act u.emitted w) c.in-Rest.is turn)

pub returns-in-Ask-clause-turn : goal.returns-in-Ask-clause-turn
returns-in-Ask-clause-turn g c t last handler m u set s k act f turn =
    c.settle_ask.ensures.turn t m u k act f
    (subst (λ w. IsWantOf (charge_by g.C.Charge.amount g.C.Charge.stamp) (StandsFor (charge_by g.C.Charge.amount g.C.Charge.stamp) t c.args.active.talk) t (talk_before t m u) u.line.act u.emitted w) c.in-Ask.is turn)

pub returns-in-Free-clause-turn : goal.returns-in-Free-clause-turn
returns-in-Free-clause-turn g c t last handler m u set s k act f turn =
    c.settle_free.ensures.turn t m u k act f
    (subst (λ w. IsWantOf (charge_by g.C.Charge.amount g.C.Charge.stamp) (StandsFor (charge_by g.C.Charge.amount g.C.Charge.stamp) t c.args.active.talk) t (talk_before t m u) u.line.act u.emitted w) c.in-Free.is turn)

pub returns-in-Emit-clause-turn : goal.returns-in-Emit-clause-turn
returns-in-Emit-clause-turn g c t last handler m u set s k act f turn =
    c.settle_event.ensures.turn t m u k act f
    (subst (λ w. IsWantOf (charge_by g.C.Charge.amount g.C.Charge.stamp) (StandsFor (charge_by g.C.Charge.amount g.C.Charge.stamp) t c.args.active.talk) t (talk_before t m u) u.line.act u.emitted w) c.in-Emit.is turn)

pub returns-in-Rest-clause-step : goal.returns-in-Rest-clause-step
returns-in-Rest-clause-step g c within =
    put_as (charge_by g.C.Charge.amount g.C.Charge.stamp) c.args.set.now.marks.limit c.args.desk.now c.settle_rest.new.desk (λ w. weight_of_active w c.args.active) (λ w. weight_of_active w c.args.active + weight_of_want w c.args.want) c.settle_rest.result
    (λ w. no_more (weight_of_active w c.args.active) (weight_of_want w c.args.want) (ap (weight_of_want w) c.in-Rest.is)) c.settle_rest.ensures.step

pub returns-in-Ask-clause-step : goal.returns-in-Ask-clause-step
returns-in-Ask-clause-step g c within =
    let asks = subst (IsAskWithin c.args.set.now.marks.limit) c.in-Ask.is within in
    put_as (charge_by g.C.Charge.amount g.C.Charge.stamp) c.args.set.now.marks.limit c.args.desk.now c.args.desk.now (λ w. weight_of_active w c.args.active) (λ w. weight_of_active w c.args.active + weight_of_want w c.args.want) _
    (λ w. no_more (weight_of_active w c.args.active) (weight_of_want w c.args.want) (ap (weight_of_want w) c.in-Ask.is)) (c.settle_ask.ensures.step c.args.set.now.marks.limit asks.0 asks.1)

pub returns-in-Free-clause-step : goal.returns-in-Free-clause-step
returns-in-Free-clause-step g c within =
    put_as (charge_by g.C.Charge.amount g.C.Charge.stamp) c.args.set.now.marks.limit c.args.desk.now c.args.desk.now (λ w. weight_of_active w c.args.active + w c.in-Free.charge) (λ w. weight_of_active w c.args.active + weight_of_want w c.args.want) _
    (λ w. ap (λ n. weight_of_active w c.args.active + n) (sym (ap (weight_of_want w) c.in-Free.is))) (c.settle_free.ensures.step c.args.set.now.marks.limit)

pub returns-in-Emit-clause-step : goal.returns-in-Emit-clause-step
returns-in-Emit-clause-step g c within =
    put_as (charge_by g.C.Charge.amount g.C.Charge.stamp) c.args.set.now.marks.limit c.args.desk.now c.settle_event.new.desk (λ w. weight_of_active w c.args.active + weight_of_event w c.in-Emit.event) (λ w. weight_of_active w c.args.active + weight_of_want w c.args.want) c.settle_event.result
    (λ w. ap (λ n. weight_of_active w c.args.active + n) (sym (ap (weight_of_want w) c.in-Emit.is))) (c.settle_event.ensures.step c.args.set.now.marks.limit)
