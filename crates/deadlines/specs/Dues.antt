-- What is due when.
use Rattle.std.specs.Prelude.{◌≡◌, ℕ, ◌<◌, ◌≤◌, ◌⊎◌, Option, None, Some}
use Rattle.std.specs.FinMap.{FinMap, get}
use Rattle.std.specs.Ordering.{nat_cmp}

-- ids with their moments: a finite map
abbrev pub Dues : Type 0
Dues = FinMap nat_cmp ℕ

-- a due is up to another: by the moment, then by the id
abbrev pub IsUpTo : ℕ × ℕ → ℕ × ℕ → Type 0
IsUpTo a b = (a.0 < b.0) ⊎ ((a.0 ≡ b.0) × (a.1 ≤ b.1))

-- a moment that has come with its id, which every other is up to from
pub record IsFirst (dues : Dues) (now : ℕ) (first : ℕ × ℕ) : Type 0 where
  pub stands : get dues first.1 ≡ Some first.0
  pub come : first.0 ≤ now
  pub least : (id moment : ℕ) → get dues id ≡ Some moment → IsUpTo first (moment, id)

-- the first due up to now, none exactly where no moment has come
abbrev pub IsFirstDue : Dues → ℕ → Option (ℕ × ℕ) → Type 0
IsFirstDue dues now (Some first) = IsFirst dues now first
IsFirstDue dues now None = (id moment : ℕ) → get dues id ≡ Some moment → now < moment
