-- Two lists of directions as one, and those of all cores.
use Rattle.std.proofs.Common.{◌≡◌, ℕ, zero, suc, ◌+◌, ◌-◌, ◌≤◌, ◌<◌, ◌⊎◌, inl, inr, Bool, true, false, List, [], ◌∷◌, ◌++◌, length, take, drop, get_or, refl, ap, sym, ◌∙◌, subst, arith}
use Rattle.std.specs.Prelude.{⊤, All, cond, nat_lt}
use Rattle.std.specs.List.Sorted.{IsPermutation}
use Rattle.std.proofs.lemmas.Bool.Decides.{nat_tests}
use Rattle.std.proofs.lemmas.List.{append-nil, append_assoc, drop_all, flat_map_more, take_more, take_rest}
use Rattle.std.proofs.lemmas.List.Elements.{All-get_or}
use Rattle.std.proofs.lemmas.List.Sorted.{IsPermutation-refl, IsPermutation-trans, IsPermutation-cons, IsPermutation-middle, IsPermutation-append_left}
use Rattle.convo.specs.declared.dir_total.DirTotal.{DirTotal}
use Rattle.streamdefs.specs.Lists.{Each}
use Rattle.tally.specs.Dirs.{Ascend, joined, merged, place_of, put_dir}

-- where one of the lists is at its end the other one is the rest

merged_nil : (xs : List DirTotal) → merged xs [] ≡ xs
merged_nil [] = refl
merged_nil (x ∷ xs) = ap (λ l. x ∷ l) (merged_nil xs)

at_end : (xs ys : List DirTotal) (i j : ℕ) → (length xs ≤ i) ⊎ (length ys ≤ j) → merged (drop i xs) (drop j ys) ≡ drop i xs ++ drop j ys
at_end xs ys i j (inl done) = let e : drop i xs ≡ [] = drop_all i xs done in (λ k. merged (e k) (drop j ys)) ∙ (λ k. sym e k ++ drop j ys)
at_end xs ys i j (inr done) = let e : drop j ys ≡ [] = drop_all j ys done in (λ k. merged (drop i xs) (e k)) ∙ merged_nil (drop i xs) ∙ sym (append-nil (drop i xs)) ∙ (λ k. drop i xs ++ sym e k)

pub ended : (all one two xs ys : List DirTotal) (i j : ℕ) → one ≡ all ++ take (length xs - i) (drop i xs) → two ≡ one ++ take (length ys - j) (drop j ys)
    → (length xs ≤ i) ⊎ (length ys ≤ j) → merged xs ys ≡ all ++ merged (drop i xs) (drop j ys) → two ≡ merged xs ys
ended all one two xs ys i j e f done is =
    f ∙ (λ k. e k ++ take_rest ys j k) ∙ (λ k. (all ++ take_rest xs i k) ++ drop j ys) ∙ append_assoc all (drop i xs) (drop j ys) ∙ ap (λ l. all ++ l) (sym (at_end xs ys i j done)) ∙ sym is

-- the same elements

pub merged_same : (xs ys : List DirTotal) → IsPermutation (xs ++ ys) (merged xs ys)
merged_same [] ys = IsPermutation-refl ys
merged_same (x ∷ xs) ys = by (merged_same xs) ys
  where
    by : ((ys : List DirTotal) → IsPermutation (xs ++ ys) (merged xs ys)) → (ys : List DirTotal) → IsPermutation ((x ∷ xs) ++ ys) (put_dir x (merged xs) ys)
    by rest [] = IsPermutation-cons x _ _ (rest [])
    by rest (y ∷ ys) = test (by rest ys) (nat_lt (place_of y) (place_of x))
      where
        test : IsPermutation ((x ∷ xs) ++ ys) (put_dir x (merged xs) ys) → (b : Bool) → IsPermutation ((x ∷ xs) ++ y ∷ ys) (cond b (y ∷ put_dir x (merged xs) ys) (x ∷ merged xs (y ∷ ys)))
        test more true = IsPermutation-trans _ _ _ (IsPermutation-middle (x ∷ xs) y ys) (IsPermutation-cons y _ _ more)
        test more false = IsPermutation-cons x _ _ (rest (y ∷ ys))

-- the order, from the front

abbrev pub From : DirTotal → List DirTotal → Type 0
From x ys = Each (λ (y : DirTotal). place_of x ≤ place_of y) ys

abbrev pub Rises : List DirTotal → Type 0
Rises [] = ⊤
Rises (x ∷ xs) = From x xs × Rises xs

each_from : (P : DirTotal → Type 0) (xs : List DirTotal) → ((j : ℕ) (d : DirTotal) → j < length xs → P (get_or xs j d)) → Each P xs
each_from P [] h = tt
each_from P (x ∷ xs) h = (h 0 x (omega arith), each_from P xs (λ j d l. h (suc j) d (omega arith)))

each_at : (P : DirTotal → Type 0) (xs : List DirTotal) (j : ℕ) (d : DirTotal) → j < length xs → Each P xs → P (get_or xs j d)
each_at P [] j d l e = absurd (omega (arith, l))
each_at P (x ∷ xs) zero d l e = e.0
each_at P (x ∷ xs) (suc j) d l e = each_at P xs j d (omega (arith, l)) e.1

pub rises : (xs : List DirTotal) → Ascend xs → Rises xs
rises [] h = tt
rises (x ∷ xs) h = (each_from _ xs (λ j d l. h 0 (suc j) d (omega arith) (omega arith)), rises xs (λ i j d le l. h (suc i) (suc j) d (omega arith) (omega arith)))

pub ascend : (xs : List DirTotal) → Rises xs → Ascend xs
ascend [] r i j d le l = absurd (omega (arith, l))
ascend (x ∷ xs) r zero zero d le l = omega arith
ascend (x ∷ xs) r zero (suc j) d le l = each_at _ xs j d (omega (arith, l)) r.0
ascend (x ∷ xs) r (suc i) zero d le l = absurd (omega (arith, le))
ascend (x ∷ xs) r (suc i) (suc j) d le l = ascend xs r.1 i j d (omega (arith, le)) (omega (arith, l))

further : (x y : DirTotal) (ys : List DirTotal) → place_of x ≤ place_of y → From y ys → From x ys
further x y [] l f = tt
further x y (z ∷ zs) l f = (omega (arith, l, f.0), further x y zs l f.1)

from_merged : (z : DirTotal) (xs ys : List DirTotal) → From z xs → From z ys → From z (merged xs ys)
from_merged z [] ys f g = g
from_merged z (x ∷ xs) ys f g = by (λ ys g. from_merged z xs ys f.1 g) ys g
  where
    by : ((ys : List DirTotal) → From z ys → From z (merged xs ys)) → (ys : List DirTotal) → From z ys → From z (put_dir x (merged xs) ys)
    by rest [] g = (f.0, rest [] g)
    by rest (y ∷ ys) g = test (by rest ys g.1) (nat_lt (place_of y) (place_of x))
      where
        test : From z (put_dir x (merged xs) ys) → (b : Bool) → From z (cond b (y ∷ put_dir x (merged xs) ys) (x ∷ merged xs (y ∷ ys)))
        test more true = (g.0, more)
        test more false = (f.0, rest (y ∷ ys) g)

rises_merged : (xs ys : List DirTotal) → Rises xs → Rises ys → Rises (merged xs ys)
rises_merged [] ys r s = s
rises_merged (x ∷ xs) ys r s = by (λ ys s. rises_merged xs ys r.1 s) ys s
  where
    by : ((ys : List DirTotal) → Rises ys → Rises (merged xs ys)) → (ys : List DirTotal) → Rises ys → Rises (put_dir x (merged xs) ys)
    by rest [] s = (from_merged x xs [] r.0 tt, rest [] s)
    by rest (y ∷ ys) s = test (by rest ys s.1) (nat_lt (place_of y) (place_of x)) refl
      where
        test : Rises (put_dir x (merged xs) ys) → (b : Bool) → nat_lt (place_of y) (place_of x) ≡ b → Rises (cond b (y ∷ put_dir x (merged xs) ys) (x ∷ merged xs (y ∷ ys)))
        test more true t =
            let low : place_of y ≤ place_of x = grind (arith, nat_tests, t) in
            (from_merged y (x ∷ xs) ys (low, further y x xs low r.0) s.0, more)
        test more false t =
            let low : place_of x ≤ place_of y = grind (arith, nat_tests, t) in
            (from_merged x xs (y ∷ ys) r.0 (low, further x y ys low s.0), rest (y ∷ ys) s)

pub merged_ascends : (xs ys : List DirTotal) → Ascend xs → Ascend ys → Ascend (merged xs ys)
merged_ascends xs ys a b = ascend (merged xs ys) (rises_merged xs ys (rises xs a) (rises ys b))

-- one core more

pub next_ascends : (cores : List (List DirTotal)) (i : ℕ) (d all next : List DirTotal) → i < length cores → next ≡ merged all (get_or cores i d)
    → (All Ascend cores → Ascend all) → All Ascend cores → Ascend next
next_ascends cores i d all next l e before each = subst Ascend (sym e) (merged_ascends all (get_or cores i d) (before each) (All-get_or Ascend cores i d l each))

pub next_same : (cores : List (List DirTotal)) (i : ℕ) (d all next : List DirTotal) → i < length cores → next ≡ merged all (get_or cores i d)
    → IsPermutation (joined (take i cores)) all → IsPermutation (joined (take (i + 1) cores)) next
next_same cores i d all next l e before =
    subst (λ (x : List DirTotal × List DirTotal). IsPermutation x.0 x.1) (λ k. (more k, sym e k))
    (IsPermutation-trans _ _ _ (IsPermutation-append_left (get_or cores i d) _ _ before) (merged_same all (get_or cores i d)))
  where
    more : joined (take i cores) ++ get_or cores i d ≡ joined (take (i + 1) cores)
    more = flat_map_more (λ (dirs : List DirTotal). dirs) [] (take i cores) (get_or cores i d) ∙ ap joined (sym (take_more cores i d l))
