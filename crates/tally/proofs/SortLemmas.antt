-- Moves in the order of their stamps: the order that the sort gives is the defined one.
use Rattle.std.proofs.Common.{◌≡◌, ℕ, suc, ◌≤◌, ◌<◌, Bool, true, false, List, [], ◌∷◌, length, get_or, refl, ap, sym, ◌∙◌, arith}
use Rattle.std.specs.Prelude.{⊤, cond, nat_lt, nat_le, nat_eq, not, ◌&&◌, filter}
use Rattle.std.specs.declared.cmp.Ordering.TheVariants.{Less, Equal, Greater}
use Rattle.std.specs.Ordering.{is_lt, nat_cmp}
use Rattle.std.specs.Fn.{Called, ComputesKey}
use denote.Ref.{Bor}
use denote.Param.Members.{Mut}
use Rattle.std.proofs.lemmas.Fn.{always_returns_same}
use Rattle.std.specs.List.Sorted.{ties, IsStableByKey, IsSortedByKey, IsNonDecreasingBy}
use Rattle.std.proofs.lemmas.List.Sorted.{IsNonDecreasingBy-from_sort}
use Rattle.std.proofs.lemmas.Bool.Decides.{nat_tests}
use Rattle.histbook.specs.Budget.{Each}
use Rattle.histbook.proofs.BudgetLemmas.{each_of}
use Rattle.tally.specs.declared.moves.Move.{Move}
use Rattle.tally.specs.Moves.{stamp_of, put_move, by_stamp}

-- no stamp is below one before it
abbrev pub Ascends : List Move → Type 0
Ascends [] = ⊤
Ascends (x ∷ xs) = Each (λ (y : Move). stamp_of x ≤ stamp_of y) xs × Ascends xs

-- the lengths

pub put_length : (m : Move) (xs : List Move) → length (put_move m xs) ≡ suc (length xs)
put_length m [] = refl
put_length m (x ∷ xs) = by_test (nat_le (stamp_of m) (stamp_of x)) (put_length m xs)
  where
    by_test : (b : Bool) → length (put_move m xs) ≡ suc (length xs) → length (cond b (m ∷ x ∷ xs) (x ∷ put_move m xs)) ≡ suc (suc (length xs))
    by_test true e = refl
    by_test false e = ap suc e

pub sorted_length : (xs : List Move) → length (by_stamp xs) ≡ length xs
sorted_length [] = refl
sorted_length (x ∷ xs) = put_length x (by_stamp xs) ∙ ap suc (sorted_length xs)

-- what is put in, and what was there, is all that is there

each_put : (P : Move → Type 0) (m : Move) (xs : List Move) → P m → Each P xs → Each P (put_move m xs)
each_put P m [] p e = (p, tt)
each_put P m (x ∷ xs) p e = by_test (nat_le (stamp_of m) (stamp_of x)) (each_put P m xs p e.1)
  where
    by_test : (b : Bool) → Each P (put_move m xs) → Each P (cond b (m ∷ x ∷ xs) (x ∷ put_move m xs))
    by_test true more = (p, e)
    by_test false more = (e.0, more)

pub each_sorted : (P : Move → Type 0) (xs : List Move) → Each P xs → Each P (by_stamp xs)
each_sorted P [] e = tt
each_sorted P (x ∷ xs) e = each_put P x (by_stamp xs) e.0 (each_sorted P xs e.1)

put_ascends : (m : Move) (xs : List Move) → Ascends xs → Ascends (put_move m xs)
put_ascends m [] a = (tt, tt)
put_ascends m (x ∷ xs) a = by_test (nat_le (stamp_of m) (stamp_of x)) refl (put_ascends m xs a.1)
  where
    by_test : (b : Bool) → nat_le (stamp_of m) (stamp_of x) ≡ b → Ascends (put_move m xs) → Ascends (cond b (m ∷ x ∷ xs) (x ∷ put_move m xs))
    by_test true t more =
        let low : stamp_of m ≤ stamp_of x = grind (arith, nat_tests, t) in
        ((low, each_of (λ (y : Move). stamp_of x ≤ stamp_of y) (λ (y : Move). stamp_of m ≤ stamp_of y) (λ y h. omega (arith, low, h)) xs a.0), a)
    by_test false t more =
        let high : stamp_of x ≤ stamp_of m = grind (arith, nat_tests, t) in
        (each_put (λ (y : Move). stamp_of x ≤ stamp_of y) m xs high a.0, more)

pub ascends : (xs : List Move) → Ascends (by_stamp xs)
ascends [] = tt
ascends (x ∷ xs) = put_ascends x (by_stamp xs) (ascends xs)

-- the moves at the stamp of one of them

abbrev tie : Move → Move → Bool
tie x y = ties (λ (a b : Move). is_lt (nat_cmp (stamp_of a) (stamp_of b))) x y

lt_is : (a b : ℕ) → is_lt (nat_cmp a b) ≡ nat_lt a b
lt_is a b = by_test (nat_lt a b) (nat_eq a b)
  where
    by_test : (t u : Bool) → is_lt (cond t Less (cond u Equal Greater)) ≡ t
    by_test true u = refl
    by_test false true = refl
    by_test false false = refl

tie_is : (x y : Move) → tie x y ≡ not (nat_lt (stamp_of x) (stamp_of y)) && not (nat_lt (stamp_of y) (stamp_of x))
tie_is x y i = not (lt_is (stamp_of x) (stamp_of y) i) && not (lt_is (stamp_of y) (stamp_of x) i)

tie_same : (x y : Move) → stamp_of x ≡ stamp_of y → tie x y ≡ true
tie_same x y e = tie_is x y ∙ grind (arith, nat_tests, e)

tie_below : (x y : Move) → stamp_of x < stamp_of y → tie x y ≡ false
tie_below x y l = tie_is x y ∙ grind (arith, nat_tests, l)

tie_above : (x y : Move) → stamp_of y < stamp_of x → tie x y ≡ false
tie_above x y l = tie_is x y ∙ grind (arith, nat_tests, l)

-- where those of each stamp stand in the same order, two ascending lists are one

kept_if : Bool → Move → List Move → List Move
kept_if b x xs = cond b (x ∷ xs) xs

none_below : (x : Move) (ys : List Move) → Each (λ (y : Move). stamp_of x < stamp_of y) ys → filter (tie x) ys ≡ []
none_below x [] e = refl
none_below x (y ∷ ys) e = by_test (tie x y) (tie_below x y e.0) (none_below x ys e.1)
  where
    by_test : (b : Bool) → b ≡ false → filter (tie x) ys ≡ [] → cond b (y ∷ filter (tie x) ys) (filter (tie x) ys) ≡ []
    by_test true t e = absurd (grind (arith, t))
    by_test false t e = e

first_kept : (x y : Move) (ys : List Move) → stamp_of x ≡ stamp_of y → filter (tie x) (y ∷ ys) ≡ y ∷ filter (tie x) ys
first_kept x y ys e = by_test (tie x y) (tie_same x y e)
  where
    by_test : (b : Bool) → b ≡ true → cond b (y ∷ filter (tie x) ys) (filter (tie x) ys) ≡ y ∷ filter (tie x) ys
    by_test true t = refl
    by_test false t = absurd (grind (arith, t))

not_first : (x y : Move) (ys : List Move) → stamp_of x < stamp_of y → Each (λ (z : Move). stamp_of y ≤ stamp_of z) ys → filter (tie x) (y ∷ ys) ≡ []
not_first x y ys l e = none_below x (y ∷ ys) (l, each_of (λ (z : Move). stamp_of y ≤ stamp_of z) (λ (z : Move). stamp_of x < stamp_of z) (λ z h. omega (arith, l, h)) ys e)

heads : (x y : Move) (xs ys : List Move) → x ∷ xs ≡ y ∷ ys → x ≡ y
heads x y xs ys e = grind (arith, e)

tails : (x y : Move) (xs ys : List Move) → x ∷ xs ≡ y ∷ ys → xs ≡ ys
tails x y xs ys e = grind (arith, e)

abbrev pub HaveSameTies : List Move → List Move → Type 0
HaveSameTies xs ys = (x : Move) → filter (tie x) xs ≡ filter (tie x) ys

behind_same : (z x : Move) (xs ys : List Move) → filter (tie z) (x ∷ xs) ≡ filter (tie z) (x ∷ ys) → filter (tie z) xs ≡ filter (tie z) ys
behind_same z x xs ys e = by_test (tie z x) e
  where
    by_test : (b : Bool) → cond b (x ∷ filter (tie z) xs) (filter (tie z) xs) ≡ cond b (x ∷ filter (tie z) ys) (filter (tie z) ys) → filter (tie z) xs ≡ filter (tie z) ys
    by_test true e = tails x x _ _ e
    by_test false e = e

pub one_order : (xs ys : List Move) → Ascends xs → Ascends ys → HaveSameTies xs ys → xs ≡ ys
one_order [] [] a b same = refl
one_order [] (y ∷ ys) a b same = absurd (grind (arith, sym (first_kept y y ys refl) ∙ sym (same y)))
one_order (x ∷ xs) [] a b same = absurd (grind (arith, sym (first_kept x x xs refl) ∙ same x))
one_order (x ∷ xs) (y ∷ ys) a b same = by_stamps (one_order xs ys a.1 b.1) (nat_lt (stamp_of x) (stamp_of y)) refl (nat_lt (stamp_of y) (stamp_of x)) refl
  where
    here : stamp_of x ≡ stamp_of y → x ∷ filter (tie x) xs ≡ y ∷ filter (tie x) ys
    here e = sym (first_kept x x xs refl) ∙ same x ∙ first_kept x y ys e

    joined : x ≡ y → HaveSameTies xs ys
    joined e z = behind_same z x xs ys (same z ∙ ap (λ (w : Move). filter (tie z) (w ∷ ys)) (sym e))

    by_stamps : (HaveSameTies xs ys → xs ≡ ys) → (s : Bool) → nat_lt (stamp_of x) (stamp_of y) ≡ s → (t : Bool) → nat_lt (stamp_of y) (stamp_of x) ≡ t → x ∷ xs ≡ y ∷ ys
    by_stamps rest true s t u =
        let low : stamp_of x < stamp_of y = grind (arith, nat_tests, s) in
        absurd (grind (arith, sym (first_kept x x xs refl) ∙ same x ∙ not_first x y ys low b.0))
    by_stamps rest false s true u =
        let low : stamp_of y < stamp_of x = grind (arith, nat_tests, u) in
        absurd (grind (arith, sym (first_kept y y ys refl) ∙ sym (same y) ∙ not_first y x xs low a.0))
    by_stamps rest false s false u =
        let e : stamp_of x ≡ stamp_of y = grind (arith, nat_tests, s, u) in
        let first : x ≡ y = heads x y _ _ (here e) in
        λ i. first i ∷ rest (joined first) i

-- the defined order keeps those of each stamp

not_both : (z x m : Move) → stamp_of x < stamp_of m → tie z m ≡ true → tie z x ≡ true → ⊥
not_both z x m low p q = by_stamps (nat_lt (stamp_of z) (stamp_of m)) refl
  where
    by_stamps : (b : Bool) → nat_lt (stamp_of z) (stamp_of m) ≡ b → ⊥
    by_stamps true t =
        let l : stamp_of z < stamp_of m = grind (arith, nat_tests, t) in
        absurd (grind (arith, sym p ∙ tie_below z m l))
    by_stamps false t =
        let l : stamp_of x < stamp_of z = grind (arith, nat_tests, t, low) in
        absurd (grind (arith, sym q ∙ tie_above z x l))

put_ties : (m : Move) (xs : List Move) (z : Move) → filter (tie z) (put_move m xs) ≡ filter (tie z) (m ∷ xs)
put_ties m [] z = refl
put_ties m (x ∷ xs) z = by_test (put_ties m xs z) (nat_le (stamp_of m) (stamp_of x)) refl
  where
    crossed : stamp_of x < stamp_of m → (g : List Move) (p q : Bool) → tie z m ≡ p → tie z x ≡ q
        → cond q (x ∷ cond p (m ∷ g) g) (cond p (m ∷ g) g) ≡ cond p (m ∷ cond q (x ∷ g) g) (cond q (x ∷ g) g)
    crossed low g true true p q = absurd (not_both z x m low p q)
    crossed low g true false p q = refl
    crossed low g false true p q = refl
    crossed low g false false p q = refl

    by_test : filter (tie z) (put_move m xs) ≡ filter (tie z) (m ∷ xs) → (b : Bool) → nat_le (stamp_of m) (stamp_of x) ≡ b → filter (tie z) (cond b (m ∷ x ∷ xs) (x ∷ put_move m xs)) ≡ filter (tie z) (m ∷ x ∷ xs)
    by_test more true t = refl
    by_test more false t =
        let low : stamp_of x < stamp_of m = grind (arith, nat_tests, t) in
        (λ i. cond (tie z x) (x ∷ more i) (more i)) ∙ crossed low (filter (tie z) xs) (tie z m) (tie z x) refl refl

ties_sorted : (xs : List Move) → HaveSameTies (by_stamp xs) xs
ties_sorted [] z = refl
ties_sorted (x ∷ xs) z = let more = ties_sorted xs z in put_ties x (by_stamp xs) z ∙ (λ i. cond (tie z x) (x ∷ more i) (more i))

-- what a sort ensures

each_from : (P : Move → Type 0) (xs : List Move) → ((j : ℕ) (d : Move) → j < length xs → P (get_or xs j d)) → Each P xs
each_from P [] h = tt
each_from P (x ∷ xs) h = (h 0 x (omega arith), each_from P xs (λ j d l. h (suc j) d (omega arith)))

ascends_from : (xs : List Move) → IsNonDecreasingBy stamp_of xs → Ascends xs
ascends_from [] h = tt
ascends_from (x ∷ xs) h =
    (each_from (λ (y : Move). stamp_of x ≤ stamp_of y) xs (λ j d l. h 0 (suc j) d (omega arith) (omega arith)), ascends_from xs (λ i j d le l. h (suc i) (suc j) d (omega arith) (omega arith)))

pub sorted_is : (moves ys : List Move) → IsSortedByKey stamp_of nat_cmp ys → IsStableByKey stamp_of nat_cmp moves ys → ys ≡ by_stamp moves
sorted_is moves ys up stable =
    one_order ys (by_stamp moves) (ascends_from ys (IsNonDecreasingBy-from_sort stamp_of ys up)) (ascends moves) (λ z. stable z ∙ sym (ties_sorted moves z))

pub sorted_by_key : {F : Type 0} {g : Mut F (Bor Move × Unit {0}) ℕ} {f : F} (moves ys : List Move)
    → ((key : Move → ℕ) → ComputesKey g key f → IsSortedByKey key nat_cmp ys) → ((key : Move → ℕ) → ComputesKey g key f → IsStableByKey key nat_cmp moves ys)
    → ((a : Bor Move × Unit {0}) (r : ℕ) (f' : F) → Called g f a r f' → (r ≡ stamp_of a.0.now) × (f' ≡ f)) → ys ≡ by_stamp moves
sorted_by_key {g = g} {f = f} moves ys up stable h =
    let key : ComputesKey g stamp_of f = always_returns_same g (λ a r. r ≡ stamp_of a.0.now) f h in
    sorted_is moves ys (up stamp_of key) (stable stamp_of key)
