use Rattle.streamdefs.specs.Direction.{with_one_look}
use Rattle.convo.specs.Directions.{dir_kind}
use Rattle.flowdir.specs.Boundary.{charge_by}
use Rattle.convo.proofs.DirSteps.{dir_lowers, paid_by, step_stands}
use Rattle.convo.proofs.Results.{if_ok_map}
use Rattle.convo.proofs.direction.told.Goals as goal

pub returns-clause-step : goal.returns-clause-step
returns-clause-step g c = if_ok_map c.told.result c.told.ensures.step (λ step h t d deed given pieces look request s st asks looked.
    let paid = charge_by g.C.Charge.amount g.C.Charge.stamp in
    step_stands paid c.told.new.self t (dir_kind c.args.dir.now) d (with_one_look look deed) given pieces step (h paid t d deed given pieces look request s (paid_by g.C.Charge.amount g.C.Charge.stamp) st.stands asks looked))

pub returns-clause-left : goal.returns-clause-left
returns-clause-left g c = if_ok_map c.told.result c.told.ensures.left (λ step h. dir_lowers _ c.args.dir.now c.told.new.self h)
