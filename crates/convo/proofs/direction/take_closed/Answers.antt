use Rattle.flowdir.specs.Boundary.{charge_by}
use Rattle.convo.specs.Directions.{dir_grants, dir_work}
use Rattle.convo.proofs.DirSteps.{first_stands}
use Rattle.convo.proofs.direction.take_closed.Goals as goal

pub returns-clause-first : goal.returns-clause-first
returns-clause-first g c = λ d pieces st.
    let paid = charge_by g.C.Charge.amount g.C.Charge.stamp in
    first_stands paid c.take_closed.new.self d pieces c.take_closed.result (c.take_closed.ensures.first paid d pieces st.stands)

pub returns-clause-grants : goal.returns-clause-grants
unfolding dir_grants
returns-clause-grants g c = c.take_closed.ensures.left.0

pub returns-clause-work : goal.returns-clause-work
unfolding dir_work
returns-clause-work g c = c.take_closed.ensures.left.1
