-- Charges of chunks, as lists and as sums.
use Rattle.evring.specs.Charges.{charges_of as charges_in, charges_of_all}
use Rattle.std.proofs.Common.{◌≡◌, refl, ◌∙◌, ap, ℕ, ◌+◌, List, [], ◌∷◌, ◌++◌, map, arith}
use Rattle.chunkpart.specs.ChunkParts.{ChunkParts, parts_of}
use Rattle.streamdefs.specs.Reorder.{Charge}
use Rattle.streamdefs.specs.Convo.{charges_of}
use Rattle.flowdir.specs.Boundary.{weight_of_parts}
use Rattle.convo.specs.Seen.{kept_for}
use Rattle.convo.specs.Weights.{weight_of_chunks}
use Rattle.convo.specs.Going.{weight_of_charges}

weight_append : {C : Type 0} (w : C → ℕ) (xs ys : List C) → weight_of_charges w (xs ++ ys) ≡ weight_of_charges w xs + weight_of_charges w ys
weight_append w [] ys = omega arith
weight_append w (x ∷ xs) ys = let e = weight_append w xs ys in omega arith

weight_parts : {C : Type 0} (w : C → ℕ) (parts : List (List ℕ × C)) → weight_of_charges w (map (λ part. part.1) parts) ≡ weight_of_parts w parts
weight_parts w [] = refl
weight_parts w (part ∷ parts) = ap (λ n. w part.1 + n) (weight_parts w parts)

-- the sums of charges of chunks
pub weight_all : {C : Type 0} (w : C → ℕ) (chunks : List (ChunkParts C)) → weight_of_charges w (charges_of_all chunks) ≡ weight_of_chunks w chunks
weight_all w [] = refl
weight_all w (chunk ∷ chunks) =
    let a = weight_append w (charges_in chunk) (charges_of_all chunks) in
    let b = weight_parts w (parts_of chunk) in
    let c = weight_all w chunks in
    omega arith

map_append : {A B : Type 0} (f : A → B) (xs ys : List A) → map f (xs ++ ys) ≡ map f xs ++ map f ys
map_append f [] ys = refl
map_append f (x ∷ xs) ys = ap (λ l. f x ∷ l) (map_append f xs ys)

map_parts : {C : Type 0} (paid : C → Charge) (parts : List (List ℕ × C)) → map paid (map (λ part. part.1) parts) ≡ map (λ part. paid part.1) parts
map_parts paid [] = refl
map_parts paid (part ∷ parts) = ap (λ l. paid part.1 ∷ l) (map_parts paid parts)

-- the charges of kept chunks are those of what is kept
pub charges_all : {C : Type 0} (paid : C → Charge) (chunks : List (ChunkParts C)) → map paid (charges_of_all chunks) ≡ charges_of (map (kept_for paid) chunks)
charges_all paid [] = refl
charges_all paid (chunk ∷ chunks) =
    map_append paid (charges_in chunk) (charges_of_all chunks)
    ∙ ap (λ l. l ++ map paid (charges_of_all chunks)) (map_parts paid (parts_of chunk))
    ∙ ap (λ l. map (λ part. paid part.1) (parts_of chunk) ++ l) (charges_all paid chunks)
