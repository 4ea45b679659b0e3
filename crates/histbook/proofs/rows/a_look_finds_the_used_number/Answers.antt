use Rattle.std.proofs.Common.{◌≡◌, rules, arith}
use Rattle.histbook.specs.Moves.{journal_moves}
use Rattle.histbook.specs.Rows.{found_one_more}
use Rattle.histbook.proofs.BudgetLemmas.{each_stamp_once, stays_within}
use Rattle.histbook.proofs.rows.a_look_finds_the_used_number.Goals as goal

pub returns-clause-once : goal.returns-clause-once
returns-clause-once c = each_stamp_once (journal_moves found_one_more) (search rules)

pub returns-clause-found : goal.returns-clause-found
returns-clause-found c = λ h. let e : 2801 ≡ 2800 = h.1.1.0.1 in absurd (omega arith)

pub returns-clause-within : goal.returns-clause-within
returns-clause-within c = stays_within 4096 6 (journal_moves found_one_more) (search rules) (search rules)
