use Rattle.std.proofs.Common.{◌≤◌, rules, arith}
use Rattle.histbook.specs.Moves.{journal_moves}
use Rattle.histbook.specs.Rows.{four_datagrams}
use Rattle.histbook.proofs.BudgetLemmas.{each_stamp_once}
use Rattle.histbook.proofs.rows.a_lower_limit_is_passed.Goals as goal

pub returns-clause-once : goal.returns-clause-once
returns-clause-once c = each_stamp_once (journal_moves four_datagrams) (search rules)

pub returns-clause-within : goal.returns-clause-within
returns-clause-within c = λ h. let e : 4000 ≤ 3999 = h 3 in absurd (omega arith)
