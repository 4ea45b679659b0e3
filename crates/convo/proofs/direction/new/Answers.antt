use Rattle.flowdir.specs.Boundary.{charge_by}
use Rattle.convo.specs.Directions.{dir_grants, dir_work}
use Rattle.convo.proofs.direction.new.Goals as goal

pub returns-clause-stands : goal.returns-clause-stands
returns-clause-stands g c = record { stands = c.new.ensures.stands (charge_by g.C.Charge.amount g.C.Charge.stamp) }

pub returns-clause-grants : goal.returns-clause-grants
unfolding dir_grants
returns-clause-grants g c = c.new.ensures.left.0

pub returns-clause-work : goal.returns-clause-work
unfolding dir_work
returns-clause-work g c = c.new.ensures.left.1
