use Rattle.std.proofs.Common.{refl, subst, []}
use Rattle.flowdir.specs.Boundary.{charge_by}
use Rattle.convo.specs.Directions.{IsBehind, dir_kind}
use Rattle.convo.proofs.Settling.{skip_step}
use Rattle.convo.proofs.direction.time.Goals as goal

pub returns-else-branch-clause-step : goal.returns-else-branch-clause-step
returns-else-branch-clause-step g c = λ t d h s st.
    let behind = subst (IsBehind c.args.at) (c.in_ok-is_due.ensures.stands t d [] h st) (c.in_ok-is_due.ensures.no c.if-branch.false) in
    skip_step (charge_by g.C.Charge.amount g.C.Charge.stamp) t (dir_kind c.args.dir.now) d c.args.at c.args.dir.now _ s behind refl st
