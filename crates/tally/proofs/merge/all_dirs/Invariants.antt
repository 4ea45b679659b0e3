use Rattle.std.proofs.Common.{take}
use Rattle.std.specs.Prelude.{All}
use Rattle.std.specs.List.Sorted.{IsPermutation}
use Rattle.tally.specs.Dirs.{Ascend, joined}
use Rattle.tally.proofs.merge.all_dirs.Given as goal

abbrev pub invariant-loop-dirs : goal.invariant-loop-dirs
invariant-loop-dirs l = record {
  ascend : All Ascend l.cores → Ascend l.all.items;
  same : IsPermutation (joined (take l.dirs-index l.cores)) l.all.items;
}
