use Rattle.flowdir.specs.Boundary.{charge_by}
use Rattle.coretable.specs.Held.{StandsFor}
use Rattle.std.proofs.Common.{[], ◌≡◌, ◌∙◌, subst, sym, cond, ◌+◌}
use Rattle.streamdefs.specs.Convo.Act.{Seg}
use Rattle.histbook.specs.declared.entry.Entry.TheVariants as E
use Rattle.convo.specs.Seen.{packet_of}
use Rattle.convo.specs.Talk.{IsWantOf}
use Rattle.coretable.specs.Course.{begun}
use Rattle.coretable.specs.Standing.{beside, entry_for}
use Rattle.coretable.proofs.Soundness.{at_rest}
use Rattle.coretable.proofs.BeginLemmas.{ready_seg}
use Rattle.coretable.proofs.StepLemmas.{step_after, begins, job_moved, moved_on}
use Rattle.coretable.specs.Steps.{nothing}
use Rattle.coretable.specs.Weighed.{weight_of_active}
use Rattle.convo.specs.Weights.{weight_of_want}
use Rattle.convo.specs.Standing.{weight_of_convo}
use Rattle.coretable.proofs.beginning_packet.begin_seg.Goals as goal

pub returns-in-Ok-take-clause-turn : goal.returns-in-Ok-take-clause-turn
returns-in-Ok-take-clause-turn g c t last handler m o p set s e k at j s' =
    let a = c.active_of-active.ensures in
    let same : c.in-Ok.packet ≡ p = c.in-Ok.ensures.packet p j in
    let ready = ready_seg (StandsFor (charge_by g.C.Charge.amount g.C.Charge.stamp) t) (charge_by g.C.Charge.amount g.C.Charge.stamp) t m c.args.place o p c.args.desk.now c.take_packet.new.desk c.take_out.new.desk c.active_of-active.result
    c.in-Ok-take_out.taken.number c.in-Ok-take_out.taken.clock c.is_ended.result c.in-Ok-take_out.taken.talk c.in-Ok-take.want (at_rest t last handler m s e).rises e k at (subst (λ j. c.take_packet.new.desk ≡ record c.args.desk.now { job = j }) c.in-Ok.ensures.job c.take_packet.ensures.rest) c.in-Ok-take_out.ensures.taken c.take_out.ensures.slots c.take_out.ensures.rest
    (λ owed st. c.is_ended.ensures t (beside o.convo owed) st)
    a.0 a.1 (a.2 ∙ c.clock_with-clock.ensures ∙ (λ i. cond c.is_ended.result c.in-Ok-take_out.taken.clock (same i).now)) ((λ i. entry_for (a.3 i) (a.4 i) (a.5 i)) ∙ (λ i. E.Seg (same i).number (same i).now [] []))
    (λ owed st. subst (λ q. IsWantOf (charge_by g.C.Charge.amount g.C.Charge.stamp) (StandsFor (charge_by g.C.Charge.amount g.C.Charge.stamp) t c.active_of-active.result.talk) t (beside o.convo owed) (Seg (packet_of q) q.now [] []) 0 c.in-Ok-take.want) same
    (subst (λ y. IsWantOf (charge_by g.C.Charge.amount g.C.Charge.stamp) (StandsFor (charge_by g.C.Charge.amount g.C.Charge.stamp) t y) t (beside o.convo owed) (Seg (packet_of c.in-Ok.packet) c.in-Ok.packet.now [] []) 0 c.in-Ok-take.want) (sym a.6)
    (c.in-Ok-take.ensures.turn t (beside o.convo owed) set st))) in
    c.settle.ensures.turn t last handler (begun m (record { conv = o.id; act = Seg (packet_of p) p.now [] [] })) ready.u set s' ready.keeps ready.active ready.fresh ready.turn

pub returns-in-Ok-take-clause-step : goal.returns-in-Ok-take-clause-step
returns-in-Ok-take-clause-step g c =
    step_after (charge_by g.C.Charge.amount g.C.Charge.stamp) c.args.set.now.marks.limit c.args.desk.now c.take_out.new.desk c.settle.new.desk nothing (λ w. weight_of_active w c.active_of-active.result + weight_of_want w c.in-Ok-take.want) c.settle.result
    (moved_on c.args.desk.now c.take_packet.new.desk c.take_out.new.desk nothing nothing _ (job_moved c.args.desk.now c.take_packet.new.desk nothing c.take_packet.ensures.rest c.take_packet.ensures.closing)
    (begins c.take_packet.new.desk c.take_out.new.desk c.in-Ok-take_out.taken.talk c.take.new.self c.active_of-active.result c.in-Ok-take.want c.take_out.ensures.rest (λ w. c.in-Ok-take_out.ensures.size (weight_of_convo w)) c.in-Ok-take.ensures.weight c.active_of-active.ensures.6))
    (c.settle.ensures.step c.in-Ok-take.ensures.within)
