use Rattle.tally.proofs.HistoryLemmas.{refuses}
use Rattle.tally.proofs.LawLemmas.{history_replayed, peaks_same}
use Rattle.tally.proofs.laws.a_history_is_replayed.Goals as goal

pub returns-clause-one : goal.returns-clause-one
returns-clause-one c limit moves looks few h = history_replayed limit moves looks few h

pub returns-clause-peak : goal.returns-clause-peak
returns-clause-peak c moves = peaks_same moves

pub returns-clause-mismatch : goal.returns-clause-mismatch
returns-clause-mismatch c limit moves looks h m first = refuses limit moves looks m first h
