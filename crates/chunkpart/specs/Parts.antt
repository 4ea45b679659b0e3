-- Parts as contracts see them: the bytes of each with its charge, in the order of the stream.
use Rattle.std.specs.Prelude.{◌≡◌, ℕ, List, length, flat_map, sum_by, All}

-- the bytes of parts, one part behind another
abbrev pub bytes_of : {C : Type 0} → List (List ℕ × C) → List ℕ
bytes_of parts = flat_map (λ part. part.0) parts

-- the bytes that the charges of parts were granted for
abbrev pub charged_bytes : {C : Type 0} → (C → ℕ) → List (List ℕ × C) → ℕ
charged_bytes amount parts = sum_by (λ part. amount part.1) parts

-- the charge of a part has one byte for each byte of the part
abbrev pub IsPaid : {C : Type 0} → (C → ℕ) → List ℕ × C → Type 0
IsPaid amount part = amount part.1 ≡ length part.0

-- the number that a chunk keeps is that of the bytes of its fresh parts, and each of these is paid
pub record AreKept {C : Type 0} (amount : C → ℕ) (count : ℕ) (parts : List (List ℕ × C)) : Type 0 where
  pub counted : count ≡ length (bytes_of parts)
  pub paid : All (IsPaid amount) parts
