use Rattle.std.proofs.Common.{◌≡◌}
use Rattle.flowdir.specs.Boundary.{asked_by}
use Rattle.flowdir.specs.Kept.{bytes_next}
use Rattle.layerbench.proofs.dirs.serve.Given as goal

abbrev pub invariant-wants : goal.invariant-wants
invariant-wants l = (bytes_next l.dir.work ≡ asked_by l.step) × (l.dir.last ≡ l.fn.dir.last)
