use Rattle.std.proofs.Common.{◌≡◌, take}
use Rattle.streamkey.specs.Hash.{toeplitz_of}
use Rattle.streamkey.proofs.hash.toeplitz.Given as goal

abbrev pub invariant-loop-i : goal.invariant-loop-i
invariant-loop-i l = l.hash ≡ toeplitz_of (take l.i l.input)
