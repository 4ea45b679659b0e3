use Rattle.flowdir.specs.Boundary.{charge_by}
use Rattle.coretable.specs.Held.{StandsFor}
use Rattle.std.proofs.Common.{◌∙◌, sym}
use Rattle.convo.specs.Seen.{packet_of}
use Rattle.coretable.proofs.PlanLemmas.{planned}
use Rattle.coretable.proofs.planning.plan.Goals as goal

pub returns-in-Ok : goal.returns-in-Ok
returns-in-Ok g c t last handler m set s e k =
    planned (StandsFor (charge_by g.C.Charge.amount g.C.Charge.stamp) t) t m (packet_of c.args.packet.now) c.args.desk.now c.in-Some.place c.in-Some-slot_at.slot.now c.in-Ok.verdict e k (sym c.place_in.ensures ∙ c.in-Some.is) c.in-Some-slot_at.ensures
    (λ k' talk id st stands clock. c.in-Ok.ensures t k' talk id set st stands clock)
