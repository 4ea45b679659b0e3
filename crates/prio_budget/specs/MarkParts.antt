-- What contracts see of marks.
use Rattle.std.specs.Prelude.{ℕ, ◌≤◌}
use Rattle.prio_budget.specs.declared.marks.TheConstants.{LEAST_LIMIT, GREATEST_LIMIT, MOST_PRIORITIES}

-- the limit and the base in bytes, and the number of priorities
pub record MarkParts : Type 0 where
  pub limit : ℕ
  pub base : ℕ
  pub count : ℕ

-- a limit that there can be: 4,096 to 2^31 - 1 bytes
abbrev pub IsLimit : ℕ → Type 0
IsLimit limit = (LEAST_LIMIT ≤ limit) × (limit ≤ GREATEST_LIMIT)

-- a number of priorities that there can be: 1 to 16
abbrev pub IsCount : ℕ → Type 0
IsCount count = (1 ≤ count) × (count ≤ MOST_PRIORITIES)

-- what is true of the three numbers of all marks
pub record AreMarks (limit base count : ℕ) : Type 0 where
  pub limit_fits : IsLimit limit
  pub base_fits : base ≤ limit
  pub count_fits : IsCount count
