use Rattle.std.proofs.Common.{subst, sym}
use Rattle.flowdir.specs.Boundary.{charge_by}
use Rattle.convo.specs.Stands.{Stands}
use Rattle.convo.specs.Talk.Phase.{Still}
use Rattle.coretable.proofs.held.Held.ending.Goals as goal

pub returns : goal.returns
returns g c t k st = c.ending.ensures t k (subst (λ x. Stands (charge_by g.C.Charge.amount g.C.Charge.stamp) x t k Still) (sym c.self.view_is) st.is)
