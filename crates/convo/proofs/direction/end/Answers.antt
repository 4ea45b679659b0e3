use Rattle.streamdefs.specs.Direction.Deed.{Ends}
use Rattle.convo.specs.Directions.{dir_kind}
use Rattle.flowdir.specs.Boundary.{charge_by}
use Rattle.convo.proofs.DirSteps.{dir_adds, step_stands}
use Rattle.convo.proofs.Results.{if_ok_map}
use Rattle.convo.proofs.direction.end.Goals as goal

pub returns-clause-step : goal.returns-clause-step
returns-clause-step g c = if_ok_map c.end.result c.end.ensures.step (λ step h t d pieces st.
    let paid = charge_by g.C.Charge.amount g.C.Charge.stamp in
    step_stands paid c.end.new.self t (dir_kind c.args.dir.now) d (Ends c.args.at) 0 pieces step (h paid t d pieces st.stands))

pub returns-clause-left : goal.returns-clause-left
returns-clause-left g c = if_ok_map c.end.result c.end.ensures.left (λ step h. dir_adds _ _ c.args.dir.now c.end.new.self h)
