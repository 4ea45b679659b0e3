-- The charges that are out.
use Rattle.std.specs.Prelude.{◌≡◌, ℕ, ◌<◌, List, sum_by, All}
use Rattle.prio_budget.specs.ChargeParts.{ChargeParts}
use Rattle.prio_budget.specs.BudgetParts.{BudgetParts}

-- the bytes of charges, together
abbrev pub bytes_of : List ChargeParts → ℕ
bytes_of charges = sum_by (λ c. c.amount) charges

-- these are the charges that are out, in some order: the used number is the sum of their bytes, and each was granted below the budget's stamp
pub record HasOut (budget : BudgetParts) (out : List ChargeParts) : Type 0 where
  pub used : budget.used ≡ bytes_of out
  pub earlier : All (λ c. c.stamp < budget.stamp) out
