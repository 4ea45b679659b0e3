use Rattle.std.proofs.Common.{◌≡◌, ◌++◌, take}
use Rattle.std.specs.Prelude.{flat_map}
use Rattle.std.specs.List.{enumerate_from}
use Rattle.histbook.specs.JournalText.{core_lines}
use Rattle.histbook.proofs.text.put_cores.Given as goal

abbrev pub invariant-loop-core : goal.invariant-loop-core
invariant-loop-core l = l.out.items ≡ l.initial.out.items ++ flat_map core_lines (enumerate_from 0 (take l.core l.books))
