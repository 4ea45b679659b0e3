use Rattle.std.proofs.Common.{◌≡◌}
use Rattle.flowdir.proofs.tests.come_all.Given as goal

abbrev pub invariant-entries : goal.invariant-entries
invariant-entries l = l.dir.last ≡ l.number
