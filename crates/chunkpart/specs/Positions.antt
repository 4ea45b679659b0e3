use Rattle.std.specs.Prelude.{ℕ, ◌+◌, List, [], ◌∷◌, ◌++◌, length}
use Rattle.std.specs.List.{enumerate_from}

-- the bytes of parts with their positions in the stream: each part begins where the part before it ends
abbrev pub placed_bytes : {C : Type 0} → ℕ → List (List ℕ × C) → List (ℕ × ℕ)
placed_bytes at [] = []
placed_bytes at (part ∷ parts) = enumerate_from at part.0 ++ placed_bytes (at + length part.0) parts
