use Rattle.std.specs.Prelude.{ℕ, suc, zero, List, [], ◌∷◌, Option, Some, None, nat_eq}
use Rattle.std.specs.Option.{option_map, option_and_then}
use Rattle.std.specs.List.{slice_split}

-- a list with a number more at its front
abbrev pub with_first : ℕ → Option (List ℕ) → Option (List ℕ)
with_first n = option_map (λ ns. n ∷ ns)

-- the numbers of the parts, of which there are at most `most` and each is one
abbrev pub numbers : ℕ → (List ℕ → Option ℕ) → List (List ℕ) → Option (List ℕ)
numbers most read [] = Some []
numbers zero read (part ∷ parts) = None
numbers (suc most) read (part ∷ parts) = option_and_then (λ n. with_first n (numbers most read parts)) (read part)

-- the parts of a text between the bytes of one kind
abbrev pub parts : ℕ → List ℕ → List (List ℕ)
parts byte = slice_split (λ b. nat_eq b byte)
