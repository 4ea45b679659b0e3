use Rattle.histbook.specs.InTurn.{Ask, GiveBack}
use Rattle.histbook.proofs.InTurnLemmas.{steps_in_order, later_after, frees_rise, asks_rise, book_rises}
use Rattle.histbook.proofs.laws.stamps_stand_in_order.Goals as goal

pub returns-clause-steps : goal.returns-clause-steps
returns-clause-steps c = steps_in_order

pub returns-clause-later : goal.returns-clause-later
returns-clause-later c = later_after

pub returns-clause-frees : goal.returns-clause-frees
returns-clause-frees c = λ limit steps s u s' u' turn. frees_rise steps (steps_in_order limit steps s u s' u' turn)

pub returns-clause-asks : goal.returns-clause-asks
returns-clause-asks c = λ limit steps s u s' u' turn. asks_rise steps (steps_in_order limit steps s u s' u' turn)

pub returns-clause-book : goal.returns-clause-book
returns-clause-book c = book_rises

pub returns-clause-grants : goal.returns-clause-grants
returns-clause-grants c = λ limit before between behind look free s u s' u' turn given. (later_after limit before between behind (Ask look) (GiveBack free) s u s' u' turn).1 given
