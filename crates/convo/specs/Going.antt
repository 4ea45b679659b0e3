-- The charges of chunks that go back.
use Rattle.evring.specs.Charges.{charges_of_all}
use Rattle.std.specs.Prelude.{ℕ, ◌+◌, List, [], ◌∷◌, drop}
use Rattle.convo.specs.declared.going.Going.{Going}

-- those that go back
abbrev pub charges_going : {C : Type 0} → Going C → List C
charges_going g = charges_of_all (drop g.at g.chunks.items)

abbrev pub weight_of_charges : {C : Type 0} → (C → ℕ) → List C → ℕ
weight_of_charges weight [] = 0
weight_of_charges weight (c ∷ cs) = weight c + weight_of_charges weight cs
