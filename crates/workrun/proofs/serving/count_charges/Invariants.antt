use Rattle.std.proofs.Common.{◌≡◌, ◌++◌, length, take}
use Rattle.evring.specs.Charges.{charges_of, charges_of_all}
use Rattle.workrun.proofs.serving.count_charges.Given as goal

abbrev pub invariant-loop-before : goal.invariant-loop-before
invariant-loop-before g l = l.count ≡ length (charges_of_all (take l.before-index l.kept) ++ charges_of l.chunk)
