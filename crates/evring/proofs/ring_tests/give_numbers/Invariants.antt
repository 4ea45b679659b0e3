use Rattle.std.proofs.Common.{◌≡◌}
use Rattle.evring.proofs.ring_tests.give_numbers.Given as goal

abbrev pub invariant-loop : goal.invariant-loop
invariant-loop g l = l.giver.ring ≡ l.initial.giver.ring
