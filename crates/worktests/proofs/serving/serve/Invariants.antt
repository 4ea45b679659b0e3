use Rattle.std.proofs.Common.{◌≡◌}
use Rattle.workrun.specs.Boundary.{pause}
use Rattle.workrun.specs.Pause.Pause.{Still}
use Rattle.worktests.proofs.serving.serve.Given as goal

abbrev pub invariant-turns : goal.invariant-turns
invariant-turns g l = pause l.worker ≡ Still
