use Rattle.std.proofs.Common.{◌≡◌, ℕ, zero, suc, ◌+◌, List, [], ◌∷◌, ◌++◌, length, refl, sym, ◌∙◌, ap, arith, slice_get, option_map}
use Rattle.std.specs.Prelude.{Option, Some}
use Rattle.std.specs.List.{enumerate_from}
use Rattle.chunkpart.specs.Parts.{bytes_of}
use Rattle.chunkpart.specs.Positions.{placed_bytes}

-- numbering goes on behind a list where it stopped
pub enumerate_from-append : {X : Type 0} (n : ℕ) (xs ys : List X) → enumerate_from n (xs ++ ys) ≡ enumerate_from n xs ++ enumerate_from (n + length xs) ys
enumerate_from-append {X} n [] ys =
    let e : n ≡ n + 0 = omega arith in ap (λ (k : ℕ). enumerate_from k ys) e
enumerate_from-append {X} n (x ∷ xs) ys =
    let e : (n + 1) + length xs ≡ n + length (x ∷ xs) = omega arith in
    ap (λ (l : List (ℕ × X)). (n, x) ∷ l)
    (enumerate_from-append (n + 1) xs ys ∙ ap (λ (k : ℕ). enumerate_from (n + 1) xs ++ enumerate_from k ys) e)

-- parts placed one behind another number their bytes without a break
pub placed_bytes-enumerate : {C : Type 0} (at : ℕ) (parts : List (List ℕ × C)) → placed_bytes at parts ≡ enumerate_from at (bytes_of parts)
placed_bytes-enumerate at [] = refl
placed_bytes-enumerate at (part ∷ parts) =
    ap (λ (l : List (ℕ × ℕ)). enumerate_from at part.0 ++ l) (placed_bytes-enumerate (at + length part.0) parts)
    ∙ sym (enumerate_from-append at part.0 (bytes_of parts))

-- the element at k is numbered n + k
pub slice_get-enumerate : {X : Type 0} (n : ℕ) (xs : List X) (k : ℕ) → slice_get (enumerate_from n xs) k ≡ option_map (λ (x : X). (n + k, x)) (slice_get xs k)
slice_get-enumerate n [] k = refl
slice_get-enumerate {X} n (x ∷ xs) zero = let e : n ≡ n + 0 = omega arith in ap (λ (m : ℕ). let o : Option (ℕ × X) = Some (m, x) in o) e
slice_get-enumerate {X} n (x ∷ xs) (suc k) =
    let e : (n + 1) + k ≡ n + suc k = omega arith in
    slice_get-enumerate (n + 1) xs k ∙ ap (λ (m : ℕ). option_map (λ (y : X). (m, y)) (slice_get xs k)) e

-- what stands behind a list of length n begins at n
pub slice_get-behind : {X : Type 0} (xs ys : List X) (k : ℕ) → slice_get (xs ++ ys) (length xs + k) ≡ slice_get ys k
slice_get-behind {X} [] ys k = let e : 0 + k ≡ k = omega arith in ap (λ (m : ℕ). slice_get ys m) e
slice_get-behind {X} (x ∷ xs) ys k =
    let e : length (x ∷ xs) + k ≡ suc (length xs + k) = omega arith in
    ap (λ (m : ℕ). slice_get (x ∷ (xs ++ ys)) m) e ∙ slice_get-behind xs ys k
