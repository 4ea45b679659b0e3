use Rattle.std.specs.Prelude.{ℕ, List, take, drop}
use Rattle.byteorder.specs.Endian.{big_number}

-- the number in the two bytes at a place, in network order
abbrev pub short_at : List ℕ → ℕ → ℕ
short_at bytes at = big_number 2 (drop at bytes)

-- so many bytes at a place
abbrev pub bytes_at : List ℕ → ℕ → ℕ → List ℕ
bytes_at bytes at count = take count (drop at bytes)
