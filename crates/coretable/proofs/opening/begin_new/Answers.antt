use Rattle.flowdir.specs.Boundary.{charge_by}
use Rattle.coretable.specs.Held.{StandsFor}
use Rattle.std.proofs.Common.{[], ℕ, ◌∷◌, ◌++◌, None, Some, ◌≡◌, ◌∙◌, subst, sym, ap, cond, ◌+◌}
use Rattle.histbook.specs.declared.entry.Entry.TheVariants as E
use Rattle.streamdefs.specs.Packet.{same_key}
use Rattle.streamdefs.specs.Convo.{new_convo}
use Rattle.streamdefs.specs.Convo.Act.{Seg}
use Rattle.convo.specs.Seen.{packet_of}
use Rattle.convo.specs.Talk.{IsWantOf}
use Rattle.coretable.specs.Course.{begun, core_of}
use Rattle.coretable.specs.Orderly.{IsOrderly}
use Rattle.coretable.specs.Standing.{beside, nothing_beside, entry_for, place_of, job_of}
use Rattle.coretable.proofs.Soundness.{at_rest}
use Rattle.coretable.proofs.OpenLemmas.{ready_new}
use Rattle.coretable.proofs.StepLemmas.{step_after, job_moved, added_moved, index_moved, same_moved, moved_on, opens}
use Rattle.coretable.specs.Steps.{nothing}
use Rattle.convo.specs.Standing.{weight_of_convo}
use Rattle.coretable.specs.Weighed.{weight_of_active}
use Rattle.convo.specs.Weights.{weight_of_want}
use Rattle.coretable.proofs.opening.begin_new.Goals as goal

pub returns-in-Ok-take-clause-turn : goal.returns-in-Ok-take-clause-turn
returns-in-Ok-take-clause-turn g c t last handler m p set s e k j s' =
    let a = c.active_of-active.ensures in
    let same : c.in-Ok.packet ≡ p = c.in-Ok.ensures.packet p j in
    let ready = ready_new (StandsFor (charge_by g.C.Charge.amount g.C.Charge.stamp) t) (charge_by g.C.Charge.amount g.C.Charge.stamp) t last m p c.args.desk.now c.take_packet.new.desk c.add_slot.new.desk c.index_at.new.desk c.active_of-active.result c.in-Ok-add_slot.place c.in-Ok-take.want
    (subst (λ x. IsOrderly t last m.number m.clock x (core_of t m)) (sym k.job ∙ ap job_of j) (at_rest t last handler m s e)) e k (subst (λ j. c.take_packet.new.desk ≡ record c.args.desk.now { job = j }) c.in-Ok.ensures.job c.take_packet.ensures.rest) c.in-Ok-add_slot.ensures.place
    (c.in-Ok-add_slot.ensures.slots ∙ (λ i. c.take_packet.new.desk.slots.items ++ record { number = (same i).number; key = (same i).key; clock = (same i).now; talk = None } ∷ [])) c.add_slot.ensures.rest
    (λ other. c.in-Ok-index_at.ensures.index other ∙ (λ i. cond (same_key (same i).key other) (Some c.in-Ok-add_slot.place) (place_of c.add_slot.new.desk other))) c.index_at.ensures.rest
    a.0 (a.1 ∙ (λ i. (same i).number)) (a.2 ∙ (λ i. (same i).now)) ((λ i. entry_for (a.3 i) (a.4 i) (a.5 i)) ∙ (λ i. E.Seg (same i).number (same i).now [] []))
    (subst (λ q. IsWantOf (charge_by g.C.Charge.amount g.C.Charge.stamp) (StandsFor (charge_by g.C.Charge.amount g.C.Charge.stamp) t c.active_of-active.result.talk) t (beside (new_convo (packet_of q)) nothing_beside) (Seg (packet_of q) q.now [] []) 0 c.in-Ok-take.want) same
    (subst (λ y. IsWantOf (charge_by g.C.Charge.amount g.C.Charge.stamp) (StandsFor (charge_by g.C.Charge.amount g.C.Charge.stamp) t y) t (beside (new_convo (packet_of c.in-Ok.packet)) nothing_beside) (Seg (packet_of c.in-Ok.packet) c.in-Ok.packet.now [] []) 0 c.in-Ok-take.want) (sym a.6)
    (c.in-Ok-take.ensures.turn t (beside (new_convo (packet_of c.in-Ok.packet)) nothing_beside) set (c.new-talk.ensures.stands t set)))) in
    c.settle.ensures.turn t last handler (begun m (record { conv = p.number; act = Seg (packet_of p) p.now [] [] })) ready.u set s' ready.keeps ready.active ready.fresh ready.turn

pub returns-in-Ok-take-clause-step : goal.returns-in-Ok-take-clause-step
returns-in-Ok-take-clause-step g c =
    let out : (g.row.C.Denot → ℕ) → ℕ = λ w. weight_of_active w c.active_of-active.result + weight_of_want w c.in-Ok-take.want in
    step_after (charge_by g.C.Charge.amount g.C.Charge.stamp) c.args.set.now.marks.limit c.args.desk.now c.index_at.new.desk c.settle.new.desk nothing out c.settle.result
    (moved_on c.args.desk.now c.take_packet.new.desk c.index_at.new.desk nothing nothing out (job_moved c.args.desk.now c.take_packet.new.desk nothing c.take_packet.ensures.rest c.take_packet.ensures.closing)
    (moved_on c.take_packet.new.desk c.add_slot.new.desk c.index_at.new.desk nothing nothing out (added_moved c.take_packet.new.desk c.add_slot.new.desk nothing c.add_slot.ensures.rest (λ w. c.add_slot.ensures.size (weight_of_convo w)))
    (moved_on c.add_slot.new.desk c.index_at.new.desk c.index_at.new.desk nothing nothing out (index_moved c.add_slot.new.desk c.index_at.new.desk nothing c.index_at.ensures.rest)
    (same_moved c.index_at.new.desk nothing out (λ w. opens w c.new-talk.result c.take.new.self c.active_of-active.result c.in-Ok-take.want (c.new-talk.ensures.weight w) (c.in-Ok-take.ensures.weight w) c.active_of-active.ensures.6)))))
    (c.settle.ensures.step c.in-Ok-take.ensures.within)
