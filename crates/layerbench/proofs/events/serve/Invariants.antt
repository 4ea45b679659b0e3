use Rattle.std.proofs.Common.{◌≡◌}
use Rattle.workrun.specs.Boundary.{pause}
use Rattle.workrun.specs.Pause.Pause.{Still}
use Rattle.layerbench.proofs.events.serve.Given as goal

abbrev pub invariant-turns : goal.invariant-turns
invariant-turns l = pause l.worker ≡ Still
