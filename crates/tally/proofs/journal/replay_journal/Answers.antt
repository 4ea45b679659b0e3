use Rattle.tally.proofs.JournalLemmas.{on_peak, on_refusal}
use Rattle.tally.proofs.journal.replay_journal.Goals as goal

pub returns-clause-peak : goal.returns-clause-peak
returns-clause-peak c = on_peak c.args.journal.now _ c.budget_replay.result c.in_ok-moves.ensures c.budget_replay.ensures.peak

pub returns-clause-history : goal.returns-clause-history
returns-clause-history c = on_refusal c.args.limit c.args.journal.now _ _ c.budget_replay.result c.in_ok-moves.ensures c.in_ok-looks.ensures c.budget_replay.ensures.refused
