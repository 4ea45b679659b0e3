use Rattle.std.proofs.Common.{subst, sym, suc}
use Rattle.flowdir.specs.Boundary.{charge_by}
use Rattle.convo.specs.Stands.{Stands}
use Rattle.convo.specs.Talk.Phase.{Under}
use Rattle.coretable.proofs.Closing.{closed}
use Rattle.coretable.proofs.held.Held.emitted.Goals as goal

pub returns-clause-turn : goal.returns-clause-turn
returns-clause-turn g c t k act emitted event s st w =
    closed (charge_by g.C.Charge.amount g.C.Charge.stamp) t c.emitted.new.self k act (suc emitted) c.in-Ok.want
    (c.in-Ok.ensures.turn t k act emitted event s (subst (λ x. Stands (charge_by g.C.Charge.amount g.C.Charge.stamp) x t k (Under act emitted)) (sym c.self.view_is) st.is) w)
