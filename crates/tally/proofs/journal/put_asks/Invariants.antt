use Rattle.std.proofs.Common.{◌≡◌, ◌++◌, take}
use Rattle.std.specs.Prelude.{flat_map}
use Rattle.histbook.specs.Moves.{looks_in}
use Rattle.tally.proofs.journal.put_asks.Given as goal

abbrev pub invariant-loop-entry : goal.invariant-loop-entry
invariant-loop-entry l = l.looks.items ≡ l.initial.looks.items ++ flat_map (λ entry. looks_in entry.entry) (take l.entry-index l.book)
