-- Marks: equal steps from a base to the limit, one for each priority.
use Rattle.std.specs.Prelude.{ℕ, ◌+◌, ◌-◌, ◌*◌, ◌/◌, ◌<◌, ◌≤◌, ◌⊎◌, min}
use Rattle.prio_budget.specs.declared.marks.TheConstants.{LEAST_LIMIT, GREATEST_LIMIT, MOST_PRIORITIES}
use Rattle.prio_budget.specs.declared.mark_fault.MarkFault.{MarkFault}
use Rattle.prio_budget.specs.declared.mark_fault.MarkFault.TheVariants.{Limit, Base, Count}
use Rattle.prio_budget.specs.MarkParts.{MarkParts, IsLimit}

-- the base and i + 1 of the n equal steps to the limit, rounded down
abbrev pub step_mark : MarkParts → ℕ → ℕ
step_mark m i = m.base + (m.limit - m.base) * (i + 1) / m.count

-- the mark of a priority: priorities count from 0, and one past the last counts as the last
abbrev pub mark_of : MarkParts → ℕ → ℕ
mark_of m priority = step_mark m (min priority (m.count - 1))

-- a fault is the first that three numbers have: the limit is tried first, then the base, then the number of priorities
abbrev pub IsFirstFault : ℕ → ℕ → ℕ → MarkFault → Type 0
IsFirstFault limit base count Limit = (limit < LEAST_LIMIT) ⊎ (GREATEST_LIMIT < limit)
IsFirstFault limit base count Base = IsLimit limit × (limit < base)
IsFirstFault limit base count Count = IsLimit limit × (base ≤ limit) × ((count < 1) ⊎ (MOST_PRIORITIES < count))
