use Rattle.std.proofs.Common.{add-one, arith}
use Rattle.tally.proofs.WalkLemmas.{got, step_on, step_stop}
use Rattle.tally.proofs.walk.Walk.over.Goals as goal

pub loop-next-preserved : goal.loop-next-preserved
loop-next-preserved c =
    rw add-one (step_on _ _ c.loop-next.next-index c.loop-next.self _ c.loop-next.invariant (got c.args.moves.now c.loop-next.next-index _ (omega arith)) c.step.new.self c.in_ok-shown.shown c.if-is_some.ensures c.in_ok-shown.ensures)

pub returns-then-is_some : goal.returns-then-is_some
returns-then-is_some c =
    step_stop _ _ c.loop-next.next-index c.loop-next.self _ c.loop-next.invariant (got c.args.moves.now c.loop-next.next-index _ (omega arith)) c.step.new.self c.in_ok-shown.shown (omega arith) c.if-is_some.ensures c.in_ok-shown.ensures
