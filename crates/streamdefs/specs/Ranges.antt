-- Runs of neighbouring positions as ranges.
use Rattle.std.specs.Prelude.{ℕ, suc, ◌-◌, cond, nat_lt, List, [], ◌∷◌, length, Option, Some, None, min}
use Rattle.streamdefs.specs.Reorder.{Placed}

-- so many positions from one on
pub record Range : Type 0 where
  pub at : ℕ
  pub len : ℕ

-- the positions of a run
abbrev pub range_of : List Placed → Range
range_of [] = record { at = 0; len = 0 }
range_of (p ∷ ps) = record { at = p.at; len = suc (length ps) }

-- the positions from one up to another, if any
abbrev pub between : ℕ → ℕ → List Range
between from to = cond (nat_lt from to) (record { at = from; len = to - from } ∷ []) []

-- the lesser of a cutoff and a position
abbrev pub cut_at : Option ℕ → ℕ → ℕ
cut_at None to = to
cut_at (Some cutoff) to = min cutoff to
