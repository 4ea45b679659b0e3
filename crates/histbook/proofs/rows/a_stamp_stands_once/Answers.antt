use Rattle.std.proofs.Common.{◌≡◌, ℕ, rules, arith}
use Rattle.histbook.specs.Moves.{journal_moves}
use Rattle.histbook.specs.Rows.{stamp_twice}
use Rattle.histbook.proofs.BudgetLemmas.{stays_within}
use Rattle.histbook.proofs.rows.a_stamp_stands_once.Goals as goal

unequal : ◌≡◌ {A = ℕ} 2 1 → ⊥
unequal e = omega arith

pub returns-clause-once : goal.returns-clause-once
returns-clause-once c = λ h. unequal (h 2)

pub returns-clause-within : goal.returns-clause-within
returns-clause-within c = stays_within 4096 6 (journal_moves stamp_twice) (search rules) (search rules)
