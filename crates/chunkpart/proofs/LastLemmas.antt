-- What stands behind the first bytes of parts, one part at a time.
use Rattle.std.proofs.Common.{◌≡◌, ℕ, zero, suc, ◌+◌, ◌-◌, ◌<◌, ◌≤◌, List, [], ◌∷◌, ◌++◌, length, take, drop, get_or, refl, sym, ◌∙◌, ap, arith, append_assoc, length-append, length-drop}
use Rattle.std.proofs.lemmas.List.{take_more}
use Rattle.std.proofs.lemmas.List.Concat.{flat_map-append}
use Rattle.chunkpart.specs.Parts.{bytes_of}

pub drop-append : {X : Type 0} (n : ℕ) (xs ys : List X) → drop n (xs ++ ys) ≡ drop n xs ++ drop (n - length xs) ys
drop-append zero [] ys = refl
drop-append {X} (suc n) [] ys = let e : suc n ≡ suc n - 0 = omega arith in ap (λ (k : ℕ). drop k ys) e
drop-append {X} zero (x ∷ xs) ys =
    let e : 0 ≡ 0 - length (x ∷ xs) = omega arith in ap (λ (k : ℕ). x ∷ (xs ++ drop k ys)) e
drop-append {X} (suc n) (x ∷ xs) ys =
    let e : n - length xs ≡ suc n - length (x ∷ xs) = omega arith in
    drop-append n xs ys ∙ ap (λ (k : ℕ). drop n xs ++ drop k ys) e

-- one part more
pub bytes_of-more : {C : Type 0} (parts : List (List ℕ × C)) (i : ℕ) (part : List ℕ × C) (bytes : List ℕ)
    → i < length parts → part ≡ get_or parts i part → bytes ≡ part.0 → bytes_of (take (i + 1) parts) ≡ bytes_of (take i parts) ++ bytes
bytes_of-more {C} parts i part bytes within is same =
    let first : List ℕ × C → List ℕ = λ p. p.0 in
    ap bytes_of (take_more parts i part within)
    ∙ flat_map-append first (take i parts) (get_or parts i part ∷ [])
    ∙ ap (λ (l : List ℕ). bytes_of (take i parts) ++ l) (append_nil (first (get_or parts i part)) ∙ sym (same ∙ ap first is))
  where
    append_nil : (l : List ℕ) → l ++ [] ≡ l
    append_nil [] = refl
    append_nil (x ∷ xs) = ap (λ (l : List ℕ). x ∷ l) (append_nil xs)

-- what is appended behind so many bytes, and what is left to skip, with more bytes
pub appended-more : (begun out after some more all : List ℕ) (s left : ℕ) → out ≡ begun ++ drop s some → left ≡ s - length some
    → after ≡ out ++ drop left more → all ≡ some ++ more → after ≡ begun ++ drop s all
appended-more begun out after some more all s left o l a e =
    a
    ∙ ap (λ (x : List ℕ). x ++ drop left more) o
    ∙ append_assoc begun (drop s some) (drop left more)
    ∙ ap (λ (k : ℕ). begun ++ (drop s some ++ drop k more)) l
    ∙ ap (λ (x : List ℕ). begun ++ x) (sym (drop-append s some more))
    ∙ ap (λ (x : List ℕ). begun ++ drop s x) (sym e)

pub left-more : (some more all : List ℕ) (s left after : ℕ) → left ≡ s - length some → after ≡ left - length more → all ≡ some ++ more
    → after ≡ s - length all
left-more some more all s left after l a e =
    let n : length all ≡ length some + length more = ap (λ (x : List ℕ). length x) e ∙ length-append some more in
    omega (arith, l, a, n)

-- what is appended of some of the parts is no longer than what is appended of all
pub appended-fits : (begun out some more all : List ℕ) (s left : ℕ) → out ≡ begun ++ drop s some → left ≡ s - length some
    → length some + length more ≤ length all → length out + length (drop left more) ≤ length begun + length (drop s all)
appended-fits begun out some more all s left o l fits =
    let n : length out ≡ length begun + length (drop s some) = ap (λ (x : List ℕ). length x) o ∙ length-append begun (drop s some) in
    let a : length (drop s some) ≡ length some - s = length-drop s some in
    let b : length (drop left more) ≡ length more - left = length-drop left more in
    let d : length (drop s all) ≡ length all - s = length-drop s all in
    omega (arith, n, a, b, d, l, fits)
