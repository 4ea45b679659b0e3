use Rattle.tally.proofs.JournalLemmas.{moves_are, journal_is_replayed, run_is_replayed, line_is}
use Rattle.tally.proofs.laws.a_journal_is_replayed.Goals as goal

pub returns-clause-moves : goal.returns-clause-moves
returns-clause-moves c = moves_are

pub returns-clause-journal : goal.returns-clause-journal
returns-clause-journal c = journal_is_replayed

pub returns-clause-run : goal.returns-clause-run
returns-clause-run c = run_is_replayed

pub returns-clause-line : goal.returns-clause-line
returns-clause-line c = line_is
