use Rattle.std.proofs.Common.{◌≡◌, ◌++◌, take}
use Rattle.std.specs.Prelude.{flat_map}
use Rattle.histbook.specs.JournalText.{free_word}
use Rattle.histbook.proofs.lines.put_frees.Given as goal

abbrev pub invariant-loop-free : goal.invariant-loop-free
invariant-loop-free l = l.out.items ≡ l.initial.out.items ++ flat_map free_word (take l.free-index l.frees)
