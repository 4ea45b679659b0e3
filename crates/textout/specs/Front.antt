use Rattle.std.specs.Prelude.{◌≡◌, ℕ, List, ◌++◌}

-- a text begins with another: what stands in a buffer after want of memory, and what it held before
pub record IsFront (front text : List ℕ) : Type 0 where
  pub rest : List ℕ
  pub is : text ≡ front ++ rest
