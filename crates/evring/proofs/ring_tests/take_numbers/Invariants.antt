use Rattle.std.proofs.Common.{◌≡◌, ◌≤◌}
use Rattle.evring.proofs.ring_tests.take_numbers.Given as goal

abbrev pub invariant-loop : goal.invariant-loop
invariant-loop g l = (l.right ≤ l.came) × (l.taker.ring ≡ l.initial.taker.ring)
