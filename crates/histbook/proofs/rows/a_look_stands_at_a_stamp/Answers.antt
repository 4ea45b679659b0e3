use Rattle.std.proofs.Common.{◌≤◌, rules, arith}
use Rattle.histbook.specs.Moves.{journal_moves}
use Rattle.histbook.specs.Rows.{look_too_late}
use Rattle.histbook.proofs.BudgetLemmas.{each_stamp_once, stays_within}
use Rattle.histbook.proofs.rows.a_look_stands_at_a_stamp.Goals as goal

pub returns-clause-once : goal.returns-clause-once
returns-clause-once c = each_stamp_once (journal_moves look_too_late) (search rules)

pub returns-clause-found : goal.returns-clause-found
returns-clause-found c = λ h. let e : 7 ≤ 6 = h.1.1.0.0 in absurd (omega arith)

pub returns-clause-within : goal.returns-clause-within
returns-clause-within c = stays_within 4096 6 (journal_moves look_too_late) (search rules) (search rules)
