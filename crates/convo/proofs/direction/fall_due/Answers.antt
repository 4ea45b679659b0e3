use Rattle.std.proofs.Common.{sym, ◌∙◌, []}
use Rattle.streamdefs.specs.Direction.Deed.{Falls_due}
use Rattle.convo.specs.Directions.{dir_kind}
use Rattle.flowdir.specs.Boundary.{charge_by}
use Rattle.convo.proofs.DirSteps.{dir_due_is, dir_lowers, step_stands}
use Rattle.convo.proofs.Results.{if_ok_map}
use Rattle.convo.proofs.direction.fall_due.Goals as goal

pub returns-clause-step : goal.returns-clause-step
returns-clause-step g c = if_ok_map c.time.result c.time.ensures.step (λ step h t d pieces s st.
    let paid = charge_by g.C.Charge.amount g.C.Charge.stamp in
    step_stands paid c.time.new.self t (dir_kind c.args.dir.now) d (Falls_due c.args.at []) 0 pieces step (h paid t d pieces s st.stands))

pub returns-clause-left : goal.returns-clause-left
returns-clause-left g c = if_ok_map c.time.result c.time.ensures.due (λ step h. dir_lowers _ c.args.dir.now c.time.new.self (h (sym (dir_due_is _ _ c.args.dir.now) ∙ c.requires.due)))
