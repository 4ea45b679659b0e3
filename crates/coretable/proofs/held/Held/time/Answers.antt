use Rattle.std.proofs.Common.{subst, sym, []}
use Rattle.flowdir.specs.Boundary.{charge_by}
use Rattle.convo.specs.Stands.{Stands}
use Rattle.convo.specs.Talk.Phase.{Still}
use Rattle.streamdefs.specs.Convo.Act.{Time}
use Rattle.coretable.proofs.Closing.{closed}
use Rattle.coretable.proofs.held.Held.time.Goals as goal

pub returns-clause-turn : goal.returns-clause-turn
returns-clause-turn g c t k s st =
    closed (charge_by g.C.Charge.amount g.C.Charge.stamp) t c.time.new.self k (Time c.args.at [] []) 0 c.in-Ok.want
    (c.in-Ok.ensures.turn t k s (subst (λ x. Stands (charge_by g.C.Charge.amount g.C.Charge.stamp) x t k Still) (sym c.self.view_is) st.is))
