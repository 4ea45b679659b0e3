use Rattle.std.proofs.Common.{◌≡◌}
use Rattle.layerbench.proofs.dirs.in_order.Given as goal

abbrev pub invariant-segments : goal.invariant-segments
invariant-segments l = l.dir.last ≡ l.number
