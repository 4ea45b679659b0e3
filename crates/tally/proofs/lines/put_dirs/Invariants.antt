use Rattle.std.proofs.Common.{◌≡◌, ◌++◌, take}
use Rattle.std.specs.Prelude.{flat_map}
use Rattle.tally.specs.Totals.{line_of}
use Rattle.tally.proofs.lines.put_dirs.Given as goal

abbrev pub invariant-loop-dir : goal.invariant-loop-dir
invariant-loop-dir l = l.out.items ≡ l.initial.out.items ++ flat_map line_of (take l.dir-index l.dirs)
