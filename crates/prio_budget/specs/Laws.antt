-- What follows from the definitions of marks and of the charges that are out.
use Rattle.std.specs.Prelude.{◌≡◌, ℕ, ◌+◌, ◌-◌, ◌*◌, ◌<◌, ◌≤◌, List, ◌∷◌, ◌++◌, IsPermutation}
use Rattle.prio_budget.specs.ChargeParts.{ChargeParts}
use Rattle.prio_budget.specs.BudgetParts.{BudgetParts}
use Rattle.prio_budget.specs.MarkParts.{MarkParts}
use Rattle.prio_budget.specs.Marks.{mark_of}
use Rattle.prio_budget.specs.Out.{HasOut, bytes_of}

-- a priority that matters more has no lower mark
abbrev pub NeverFall : MarkParts → Type 0
NeverFall m = (i j : ℕ) → i ≤ j → mark_of m i ≤ mark_of m j

-- the last priority, and each number past it, may fill the memory to the limit
abbrev pub EndAtTheLimit : MarkParts → Type 0
EndAtTheLimit m = (i : ℕ) → m.count ≤ i + 1 → mark_of m i ≡ m.limit

-- `share` bytes are `parts` of `count` equal parts of `whole` bytes, rounded down
abbrev pub IsShare : ℕ → ℕ → ℕ → ℕ → Type 0
IsShare count parts whole share = (count * share ≤ parts * whole) × (parts * whole < count * (share + 1))

-- from the base to the limit there are as many equal steps as priorities
abbrev pub AreEqualSteps : MarkParts → Type 0
AreEqualSteps m = (i : ℕ) → i < m.count → (m.base ≤ mark_of m i) × IsShare m.count (i + 1) (m.limit - m.base) (mark_of m i - m.base)

-- all charges that are out have together at most the limit's bytes
abbrev pub FitTheLimit : BudgetParts → Type 0
FitTheLimit budget = (out : List ChargeParts) → HasOut budget out → bytes_of out ≤ budget.limit

-- a charge among those that are out was granted earlier, and has at most the bytes in use
abbrev pub CanReleaseEach : BudgetParts → Type 0
CanReleaseEach budget =
    (left right : List ChargeParts) (charge : ChargeParts) → HasOut budget (left ++ charge ∷ right)
    → (charge.amount ≤ budget.used) × (charge.stamp < budget.stamp)

-- the charges that are out may be listed in any order
abbrev pub HasOutInAnyOrder : BudgetParts → Type 0
HasOutInAnyOrder budget = (out other : List ChargeParts) → IsPermutation out other → HasOut budget out → HasOut budget other
