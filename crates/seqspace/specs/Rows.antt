use Rattle.std.specs.Prelude.{ℕ, ℤ}
use Rattle.streamdefs.specs.Seqspace.{place}

-- a position, with nothing unfolded
unfoldable pub position_of : (base seq front : ℕ) → ℤ
position_of base seq front = place base seq front
