use Rattle.std.proofs.Common.{◌≤◌}
use Rattle.worktests.proofs.serving.events_of.Given as goal

abbrev pub invariant-loop-piece : goal.invariant-loop-piece
invariant-loop-piece l = 4096 ≤ l.budget.limit
