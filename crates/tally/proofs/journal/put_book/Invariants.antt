use Rattle.std.proofs.Common.{◌≡◌, ◌++◌, take}
use Rattle.std.specs.Prelude.{flat_map}
use Rattle.tally.specs.Journal.{moves_of_entry}
use Rattle.tally.proofs.journal.put_book.Given as goal

abbrev pub invariant-loop-entry : goal.invariant-loop-entry
invariant-loop-entry l = l.moves.items ≡ l.initial.moves.items ++ flat_map moves_of_entry (take l.entry-index l.book)
