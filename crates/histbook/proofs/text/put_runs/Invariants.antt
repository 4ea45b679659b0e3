use Rattle.std.proofs.Common.{◌≡◌, ◌++◌, take}
use Rattle.std.specs.Prelude.{flat_map}
use Rattle.histbook.specs.JournalText.{from_line}
use Rattle.histbook.proofs.text.put_runs.Given as goal

abbrev pub invariant-loop-core : goal.invariant-loop-core
invariant-loop-core l = l.out.items ≡ l.initial.out.items ++ flat_map from_line (take l.core-index l.runs)
