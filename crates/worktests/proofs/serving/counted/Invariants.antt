use Rattle.std.proofs.Common.{◌≡◌, None}
use Rattle.workrun.specs.Boundary.{core_in_hand}
use Rattle.worktests.proofs.serving.counted.Given as goal

abbrev pub invariant-events : goal.invariant-events
invariant-events l = core_in_hand l.worker ≡ None
