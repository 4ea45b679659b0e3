use Rattle.std.proofs.Common.{suc}
use Rattle.convo.specs.Directions.{dir_kind}
use Rattle.flowdir.specs.Boundary.{charge_by}
use Rattle.convo.proofs.DirSteps.{dir_lowers, step_stands}
use Rattle.convo.proofs.Results.{if_ok_map}
use Rattle.convo.proofs.direction.freed.Goals as goal

pub returns-clause-step : goal.returns-clause-step
returns-clause-step g c = if_ok_map c.freed.result c.freed.ensures.step (λ step h t d deed given pieces charge st gives.
    let paid = charge_by g.C.Charge.amount g.C.Charge.stamp in
    step_stands paid c.freed.new.self t (dir_kind c.args.dir.now) d deed (suc given) pieces step (h paid t d deed given pieces charge st.stands gives))

pub returns-clause-left : goal.returns-clause-left
returns-clause-left g c = if_ok_map c.freed.result c.freed.ensures.left (λ step h. dir_lowers _ c.args.dir.now c.freed.new.self h)
