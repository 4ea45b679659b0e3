use Rattle.std.proofs.Common.{◌≡◌, ◌++◌, take}
use Rattle.std.specs.Prelude.{flat_map}
use Rattle.std.specs.List.{enumerate_from}
use Rattle.histbook.specs.JournalText.{worker_lines}
use Rattle.histbook.proofs.text.put_workers.Given as goal

abbrev pub invariant-loop-worker : goal.invariant-loop-worker
invariant-loop-worker l = l.out.items ≡ l.initial.out.items ++ flat_map worker_lines (enumerate_from 0 (take l.worker l.lists))
