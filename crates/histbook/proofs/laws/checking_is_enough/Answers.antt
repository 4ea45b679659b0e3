use Rattle.histbook.specs.Moves.{journal_moves, journal_looks}
use Rattle.histbook.proofs.BudgetLemmas.{history_checked}
use Rattle.histbook.proofs.MovesLemmas.{checked_journal}
use Rattle.histbook.proofs.laws.checking_is_enough.Goals as goal

pub returns : goal.returns
returns c = λ limit journal. (checked_journal limit journal, history_checked limit (journal_moves journal) (journal_looks journal))
