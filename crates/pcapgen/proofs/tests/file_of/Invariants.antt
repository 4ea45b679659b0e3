use Rattle.std.proofs.Common.{◌≡◌}
use Rattle.pcapgen.proofs.tests.file_of.Given as goal

abbrev pub invariant-loop-made : goal.invariant-loop-made
invariant-loop-made l = l.generator.number ≡ l.made
