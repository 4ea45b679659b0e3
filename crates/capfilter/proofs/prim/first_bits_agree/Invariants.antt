use Rattle.std.proofs.Common.{◌≡◌, drop}
use Rattle.capfilter.specs.Truth.{agree}
use Rattle.capfilter.proofs.prim.first_bits_agree.Given as goal

abbrev pub invariant-loop-i : goal.invariant-loop-i
invariant-loop-i l = agree l.bits l.a l.b ≡ agree l.left (drop l.i l.a) (drop l.i l.b)
