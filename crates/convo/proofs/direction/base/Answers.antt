use Rattle.flowdir.specs.Boundary.{charge_by}
use Rattle.convo.proofs.direction.base.Goals as goal

pub returns : goal.returns
returns g c = λ d pieces st. c.base.ensures (charge_by g.C.Charge.amount g.C.Charge.stamp) d pieces st.stands
