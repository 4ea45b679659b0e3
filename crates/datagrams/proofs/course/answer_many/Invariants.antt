use Rattle.std.proofs.Common.{◌≡◌}
use Rattle.datagrams.specs.State.{answered_many}
use Rattle.datagrams.proofs.course.answer_many.Given as goal

abbrev pub invariant-loop-turn : goal.invariant-loop-turn
invariant-loop-turn l = l.replay ≡ answered_many l.turn l.fn.replay
