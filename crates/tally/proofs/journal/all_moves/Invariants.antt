use Rattle.std.proofs.Common.{◌≡◌, flat_map, take}
use Rattle.tally.specs.Journal.{moves_of_book}
use Rattle.tally.proofs.journal.all_moves.Given as goal

abbrev pub invariant-loop-book : goal.invariant-loop-book
invariant-loop-book l = l.moves.items ≡ flat_map moves_of_book (take l.book-index l.journal.cores)
