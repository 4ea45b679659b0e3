use Rattle.flowdir.specs.Boundary.{charge_by}
use Rattle.coretable.specs.Held.{StandsFor}
use Rattle.std.proofs.Common.{◌∙◌, subst, sym, []}
use Rattle.std.specs.Prelude.{IfOk}
use Rattle.evring.specs.declared.reason.Reason.TheVariants.{Replaced}
use Rattle.streamdefs.specs.Convo.Act.{End}
use Rattle.convo.specs.Seen.{packet_of}
use Rattle.coretable.specs.Course.{begun, core_of}
use Rattle.coretable.specs.Lawfully.{IsSound}
use Rattle.coretable.specs.Turns.{Settles}
use Rattle.coretable.specs.Verdicts.{verdict_line, IsThere}
use Rattle.coretable.proofs.beginning_planned.begin_planned.Goals as goal

pub returns-in-Open-clause-turn : goal.returns-in-Open-clause-turn
returns-in-Open-clause-turn g c t last handler m p set s e k j n plan s' =
    let line = (λ i. verdict_line (packet_of p) plan.id (sym c.in-Open.is i)) ∙ plan.line in
    subst (λ l. IfOk c.begin_new.result (λ r. Settles (charge_by g.C.Charge.amount g.C.Charge.stamp) (StandsFor (charge_by g.C.Charge.amount g.C.Charge.stamp) t) t (begun m l) c.begin_new.new.desk r.0 r.1)) line
    (c.begin_new.ensures.turn t last handler m p set s e k j (subst (λ l. IsSound t last handler (begun m l)) (sym line) s'))

pub returns-in-Seg-clause-turn : goal.returns-in-Seg-clause-turn
returns-in-Seg-clause-turn g c t last handler m p set s e k j n plan s' =
    let line = (λ i. verdict_line (packet_of p) plan.id (sym c.in-Seg.is i)) ∙ plan.line in
    let there = subst (IsThere (core_of t m) plan.id c.args.place) c.in-Seg.is plan.there in
    subst (λ l. IfOk c.begin_seg.result (λ r. Settles (charge_by g.C.Charge.amount g.C.Charge.stamp) (StandsFor (charge_by g.C.Charge.amount g.C.Charge.stamp) t) t (begun m l) c.begin_seg.new.desk r.0 r.1)) line
    (c.begin_seg.ensures.turn t last handler m (record { id = plan.id; convo = there.0 }) p set s e k there.1 j (subst (λ l. IsSound t last handler (begun m l)) (sym line) s'))

pub returns-in-Replaces-clause-turn : goal.returns-in-Replaces-clause-turn
returns-in-Replaces-clause-turn g c t last handler m p set s e k j n plan s' =
    let line = (λ i. record { conv = plan.id; act = End (n i) Replaced [] [] }) ∙ (λ i. verdict_line (packet_of p) plan.id (sym c.in-Replaces.is i)) ∙ plan.line in
    let there = subst (IsThere (core_of t m) plan.id c.args.place) c.in-Replaces.is plan.there in
    subst (λ l. IfOk c.begin_end.result (λ r. Settles (charge_by g.C.Charge.amount g.C.Charge.stamp) (StandsFor (charge_by g.C.Charge.amount g.C.Charge.stamp) t) t (begun m l) c.begin_end.new.desk r.0 r.1)) line
    (c.begin_end.ensures.turn t last handler m (record { id = plan.id; convo = there.0 }) set s e k there.1 (subst (λ l. IsSound t last handler (begun m l)) (sym line) s'))
