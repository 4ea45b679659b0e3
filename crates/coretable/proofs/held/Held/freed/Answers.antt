use Rattle.std.proofs.Common.{subst, sym}
use Rattle.flowdir.specs.Boundary.{charge_by}
use Rattle.convo.specs.Stands.{Stands}
use Rattle.convo.specs.Talk.Phase.{Under}
use Rattle.streamdefs.specs.Want.{with_free}
use Rattle.coretable.proofs.Closing.{closed}
use Rattle.coretable.proofs.held.Held.freed.Goals as goal

pub returns-clause-turn : goal.returns-clause-turn
returns-clause-turn g c t k act emitted free charge s st w =
    closed (charge_by g.C.Charge.amount g.C.Charge.stamp) t c.freed.new.self k (with_free free act) emitted c.in-Ok.want
    (c.in-Ok.ensures.turn t k act emitted free charge s (subst (λ x. Stands (charge_by g.C.Charge.amount g.C.Charge.stamp) x t k (Under act emitted)) (sym c.self.view_is) st.is) w)
