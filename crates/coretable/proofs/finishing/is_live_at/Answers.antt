use Rattle.flowdir.specs.Boundary.{charge_by}
use Rattle.coretable.specs.Held.{StandsFor}
use Rattle.coretable.proofs.FinishLemmas.{live_by}
use Rattle.coretable.proofs.finishing.is_live_at.Goals as goal

pub returns-in-Some : goal.returns-in-Some
returns-in-Some g c t m o e k at = live_by (StandsFor (charge_by g.C.Charge.amount g.C.Charge.stamp) t) t m c.args.desk.now c.args.place o c.in-Some.slot.now c.is_live_in.result e k at c.in-Some.ensures (λ k' talk st stands. c.is_live_in.ensures t k' talk st stands)
