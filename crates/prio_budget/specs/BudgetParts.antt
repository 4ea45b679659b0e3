-- What contracts see of a budget of one thread.
use Rattle.std.specs.Prelude.{ℕ, ◌+◌, ◌≤◌}
use Rattle.prio_budget.specs.declared.marks.TheConstants.{GREATEST_LIMIT}
use Rattle.prio_budget.specs.declared.answered.TheConstants.{SPENT_STAMP}

-- the limit in bytes, the stamp of the next grant or release, and the bytes in use
pub record BudgetParts : Type 0 where
  pub limit : ℕ
  pub stamp : ℕ
  pub used : ℕ

-- what is true of the three numbers of every budget: the bytes in use don't pass the limit; and since from stamp 2^31 on there are only releases,
-- of a byte at least each, no stamp lies further beyond 2^31 than the limit's bytes
pub record IsWithin (limit stamp used : ℕ) : Type 0 where
  pub limit_fits : limit ≤ GREATEST_LIMIT
  pub used_fits : used ≤ limit
  pub stamp_fits : stamp + used ≤ SPENT_STAMP + limit
