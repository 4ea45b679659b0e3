use Rattle.std.proofs.Common.{◌≡◌, ◌++◌}
use Rattle.textout.specs.Addresses.{colon_groups}
use Rattle.textout.proofs.address.put_groups.Given as goal

abbrev pub invariant-loop-i : goal.invariant-loop-i
invariant-loop-i l = l.out.items ≡ l.initial.out.items ++ colon_groups l.octets l.i
