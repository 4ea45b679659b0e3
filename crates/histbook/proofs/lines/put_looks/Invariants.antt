use Rattle.std.proofs.Common.{◌≡◌, ◌++◌, take}
use Rattle.std.specs.Prelude.{flat_map}
use Rattle.histbook.specs.JournalText.{look_word}
use Rattle.histbook.proofs.lines.put_looks.Given as goal

abbrev pub invariant-loop-look : goal.invariant-loop-look
invariant-loop-look l = l.out.items ≡ l.initial.out.items ++ flat_map look_word (take l.look-index l.looks)
