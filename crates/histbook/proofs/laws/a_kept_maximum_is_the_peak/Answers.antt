use Rattle.histbook.proofs.InTurnLemmas.{kept_is_peak, peak_append, peak_of_moves, book_peak}
use Rattle.histbook.proofs.laws.a_kept_maximum_is_the_peak.Goals as goal

pub returns-clause-kept : goal.returns-clause-kept
returns-clause-kept c = kept_is_peak

pub returns-clause-join : goal.returns-clause-join
returns-clause-join c = peak_append

pub returns-clause-moves : goal.returns-clause-moves
returns-clause-moves c = peak_of_moves

pub returns-clause-book : goal.returns-clause-book
returns-clause-book c = book_peak
