use Rattle.std.proofs.Common.{◌≡◌, ℕ, rules, arith}
use Rattle.histbook.specs.Moves.{journal_moves}
use Rattle.histbook.specs.Rows.{stamp_too_high}
use Rattle.histbook.proofs.BudgetLemmas.{stays_within}
use Rattle.histbook.proofs.rows.stamps_leave_none_out.Goals as goal

unequal : ◌≡◌ {A = ℕ} 0 1 → ⊥
unequal e = omega arith

pub returns-clause-once : goal.returns-clause-once
returns-clause-once c = λ h. unequal (h 5)

pub returns-clause-within : goal.returns-clause-within
returns-clause-within c = stays_within 4096 7 (journal_moves stamp_too_high) (search rules) (search rules)
