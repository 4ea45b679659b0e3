use Rattle.flowdir.specs.Boundary.{charge_by}
use Rattle.convo.proofs.direction.due.Goals as goal

pub returns-clause-stands : goal.returns-clause-stands
returns-clause-stands g c = λ t d pieces s st. c.due.ensures.stands (charge_by g.C.Charge.amount g.C.Charge.stamp) t d pieces s st.stands
