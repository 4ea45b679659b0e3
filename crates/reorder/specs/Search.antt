-- Where a position lies among parts.
use Rattle.std.specs.Prelude.{⊤, ℕ, suc, ◌<◌, ◌≤◌, ◌≡◌, List, [], ◌∷◌, drop}
use Rattle.reorder.specs.Frags.{Frag, end_of}

-- the first part, if any, ends behind a position
abbrev pub EndsBehind : {C : Type 0} → ℕ → List (Frag C) → Type 0
EndsBehind at [] = ⊤
EndsBehind at (f ∷ fs) = at < end_of f

-- the first part, if any, begins at a position or behind it
abbrev pub BeginsFrom : {C : Type 0} → ℕ → List (Frag C) → Type 0
BeginsFrom at [] = ⊤
BeginsFrom at (f ∷ fs) = at ≤ f.at

-- a part stands at a place among parts
abbrev pub StandsAt : {C : Type 0} → List (Frag C) → ℕ → Frag C → Type 0
StandsAt fs place f = drop place fs ≡ f ∷ drop (suc place) fs
