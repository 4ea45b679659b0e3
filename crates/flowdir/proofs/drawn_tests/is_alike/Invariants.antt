use Rattle.std.proofs.Common.{◌≡◌}
use Rattle.flowdir.proofs.drawn_tests.is_alike.Given as goal

abbrev pub invariant-segments : goal.invariant-segments
invariant-segments l = l.pair.dir.last ≡ l.number
