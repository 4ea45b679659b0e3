use Rattle.std.proofs.Common.{[]}
use Rattle.streamdefs.specs.Direction.Deed.{Arrives}
use Rattle.convo.specs.Directions.{dir_kind}
use Rattle.flowdir.specs.Boundary.{charge_by, segment_of}
use Rattle.convo.proofs.DirSteps.{dir_adds, step_stands}
use Rattle.convo.proofs.Results.{if_ok_map}
use Rattle.convo.proofs.direction.begin.Goals as goal

pub returns-clause-step : goal.returns-clause-step
returns-clause-step g c = if_ok_map c.begin.result c.begin.ensures.step (λ step h t d pieces s st.
    let paid = charge_by g.C.Charge.amount g.C.Charge.stamp in
    step_stands paid c.begin.new.self t (dir_kind c.args.dir.now) d (Arrives (segment_of c.args.seg.now c.args.cutoff) []) 0 pieces step (h paid t d pieces s st.stands))

pub returns-clause-left : goal.returns-clause-left
returns-clause-left g c = if_ok_map c.begin.result c.begin.ensures.left (λ step h. dir_adds _ _ c.args.dir.now c.begin.new.self h)
