use Rattle.std.proofs.Common.{◌≡◌, ◌+◌, ◌-◌, ◌≤◌, ◌++◌, drop, length}
use Rattle.tally.specs.Dirs.{merged}
use Rattle.tally.proofs.merge.merged.Given as goal

abbrev pub invariant-merge : goal.invariant-merge
invariant-merge l = record {
  first : l.i ≤ length l.first;
  second : l.j ≤ length l.second;
  merges : merged l.first l.second ≡ l.all.items ++ merged (drop l.i l.first) (drop l.j l.second);
}

abbrev pub decreases-merge : goal.decreases-merge
decreases-merge l = (length l.first - l.i) + (length l.second - l.j)
