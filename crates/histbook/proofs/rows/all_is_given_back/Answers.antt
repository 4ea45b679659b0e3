use Rattle.std.proofs.Common.{◌≡◌, rules, arith}
use Rattle.histbook.specs.Moves.{journal_moves}
use Rattle.histbook.specs.Rows.{one_byte_kept}
use Rattle.histbook.proofs.BudgetLemmas.{each_stamp_once, stays_within}
use Rattle.histbook.proofs.rows.all_is_given_back.Goals as goal

pub returns-clause-once : goal.returns-clause-once
returns-clause-once c = each_stamp_once (journal_moves one_byte_kept) (search rules)

pub returns-clause-within : goal.returns-clause-within
returns-clause-within c = stays_within 4096 6 (journal_moves one_byte_kept) (search rules) (search rules)

pub returns-clause-settled : goal.returns-clause-settled
returns-clause-settled c = λ h. let e : 3999 ≡ 4000 = h in absurd (omega arith)
