-- Words on lists, by recursion from the front.
use Rattle.std.specs.Prelude.{◌≡◌, ⊤, ℕ, suc, ◌+◌, Bool, true, false, cond, List, [], ◌∷◌, length, take, Option, Some, None}

-- how many elements pass a test
abbrev pub how_many : {X : Type 0} → (X → Bool) → List X → ℕ
how_many test [] = 0
how_many test (x ∷ xs) = cond (test x) (suc (how_many test xs)) (how_many test xs)

-- the sum of a number over a list
abbrev pub total : {X : Type 0} → (X → ℕ) → List X → ℕ
total f [] = 0
total f (x ∷ xs) = f x + total f xs

-- whether a list has no element
abbrev pub is_empty : {X : Type 0} → List X → Bool
is_empty [] = true
is_empty (x ∷ xs) = false

-- a list that may be missing, which then is the empty one
abbrev pub or_nothing : {X : Type 0} → Option (List X) → List X
or_nothing None = []
or_nothing (Some xs) = xs

-- the first of two that is there
abbrev pub or_else : {X : Type 0} → Option X → Option X → Option X
or_else (Some x) other = Some x
or_else None other = other

-- P of each element
abbrev pub Each : {X : Type 0} → (X → Type 0) → List X → Type 0
Each P [] = ⊤
Each P (x ∷ xs) = P x × Each P xs

-- P of each element with its number, which rise from one on
abbrev pub EachNumbered : {X : Type 0} → (ℕ → X → Type 0) → ℕ → List X → Type 0
EachNumbered P n [] = ⊤
EachNumbered P n (x ∷ xs) = P n x × EachNumbered P (suc n) xs

-- a front of a list
abbrev pub IsPrefixOf : {X : Type 0} → List X → List X → Type 0
IsPrefixOf xs ys = xs ≡ take (length xs) ys
