use Rattle.std.proofs.Common.{◌≡◌, flat_map, take}
use Rattle.histbook.specs.InTurn.{book_asks}
use Rattle.tally.proofs.journal.looks_of.Given as goal

abbrev pub invariant-loop-book : goal.invariant-loop-book
invariant-loop-book l = l.looks.items ≡ flat_map book_asks (take l.book-index l.journal.cores)
