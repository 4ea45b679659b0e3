-- The watermarks of the memory budget.
use Rattle.std.specs.Prelude.{ℕ, ◌+◌, ◌-◌, ◌*◌, ◌/◌, min}

-- the limit in bytes, the base that each priority may fill, and the number of priorities
pub record Marks : Type 0 where
  pub limit : ℕ
  pub base : ℕ
  pub priorities : ℕ

-- the watermark of a priority, the greatest for all above it
abbrev pub mark : Marks → ℕ → ℕ
mark m priority = m.base + (m.limit - m.base) * (min priority (m.priorities - 1) + 1) / m.priorities
