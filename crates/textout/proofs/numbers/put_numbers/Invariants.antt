use Rattle.std.proofs.Common.{◌≡◌, ◌++◌, take}
use Rattle.textout.specs.Texts.{spaced}
use Rattle.textout.proofs.numbers.put_numbers.Given as goal

abbrev pub invariant-loop-n : goal.invariant-loop-n
invariant-loop-n l = l.out.items ≡ l.initial.out.items ++ spaced (take l.n-index l.numbers)
