use Rattle.histbook.proofs.InTurnLemmas.{moves_of_book, looks_of_book, steps_are_a_history, book_is_a_history, core_is_a_history}
use Rattle.histbook.proofs.laws.a_turn_is_a_history.Goals as goal

pub returns-clause-same : goal.returns-clause-same
returns-clause-same c = λ book. (moves_of_book book, looks_of_book book)

pub returns-clause-steps : goal.returns-clause-steps
returns-clause-steps c = steps_are_a_history

pub returns-clause-book : goal.returns-clause-book
returns-clause-book c = book_is_a_history

pub returns-clause-journal : goal.returns-clause-journal
returns-clause-journal c = core_is_a_history
