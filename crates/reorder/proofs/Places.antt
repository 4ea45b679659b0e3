-- What bisection finds among parts, and what is done there.
use Rattle.std.specs.Prelude.{◌≡◌, refl, ◌⊎◌, ℕ, suc, ◌+◌, ◌-◌, ◌<◌, ◌≤◌, ◌^◌, Bool, true, false, cond, nat_lt, List, [], ◌∷◌, ◌++◌, length, take, drop, min, max, ℤ, None, slice_get, nat_le}
use Prim.Native.Nat.{zero}
use Rattle.std.specs.List.{insert}
use Rattle.std.proofs.Common.{sym, ◌∙◌, ap, subst, arith, inl, inr, append-nil, get_or, set}
use Rattle.std.proofs.lemmas.List.Edits.{map_over_more}
use Rattle.std.proofs.Math.Seq.{drop-cons}
use Rattle.std.proofs.lemmas.Bool.Decides.{nat_tests}
use Rattle.std.proofs.lemmas.List.{take_all, take-append-drop, map-append}
use Rattle.overpolicy.specs.declared.policy.Policy.{Policy}
use Rattle.streamdefs.specs.Ranges.{Range, between}
use Rattle.reorder.specs.Frags.{Cell, Frag, end_of, size, Ascends, EndBy, IsClear, free, put, byte_at, cell_with, cells_with, overlaid_one, overlaid, weight_in}
use Rattle.reorder.specs.Search.{EndsBehind, BeginsFrom, StandsAt}
use Rattle.reorder.proofs.FreeRuns.{none_beyond, free_within}
use Rattle.reorder.proofs.Settling.{with_before, with_behind, lt_yes, lt_no}

-- Bisection.
pub stands : {C : Type 0} (fs : List (Frag C)) (i : ℕ) (x : Frag C) → i < length fs → x ≡ get_or fs i x → StandsAt fs i x
stands fs i x l e = drop-cons fs i x l ∙ ap (λ f. f ∷ drop (suc i) fs) (sym e)

pub low_of : {C : Type 0} (low : ℕ) (fs : List (Frag C)) (i : ℕ) (x : Frag C) → Ascends low fs → i < length fs → x ≡ get_or fs i x → low < end_of x
low_of low [] i x a l e = absurd (omega arith)
low_of low (f ∷ fs) zero x a l e = subst (λ g. low < end_of g) (sym e) (omega (arith, a.0, a.1))
low_of low (f ∷ fs) (suc i) x a l e = omega (arith, a.0, a.1, low_of (end_of f) fs i x a.2 (omega arith) e)

ends_to : {C : Type 0} (low position : ℕ) (fs : List (Frag C)) (i : ℕ) (x : Frag C) → Ascends low fs → i < length fs → x ≡ get_or fs i x → end_of x ≤ position → EndBy position (take (suc i) fs)
ends_to low position [] i x a l e h = absurd (omega arith)
ends_to low position (f ∷ fs) zero x a l e h = (subst (λ g. end_of g ≤ position) e h, tt)
ends_to low position (f ∷ fs) (suc i) x a l e h = (omega (arith, h, low_of (end_of f) fs i x a.2 (omega arith) e), ends_to (end_of f) position fs i x a.2 (omega arith) e h)

pub ends_at : {C : Type 0} (position : ℕ) (fs : List (Frag C)) (i n : ℕ) (x : Frag C) → n ≡ suc i → Ascends 0 fs → i < length fs → x ≡ get_or fs i x → end_of x ≤ position → EndBy position (take n fs)
ends_at position fs i n x s a l e h = subst (λ (k : ℕ). EndBy position (take k fs)) (sym s) (ends_to 0 position fs i x a l e h)

pub ends_behind : {C : Type 0} (position : ℕ) (fs : List (Frag C)) (i : ℕ) (x : Frag C) → StandsAt fs i x → position < end_of x → EndsBehind position (drop i fs)
ends_behind position fs i x e h = subst (EndsBehind position) (sym e) h

pub none_behind : {C : Type 0} (position : ℕ) (fs : List (Frag C)) (i : ℕ) → length fs ≤ i → EndsBehind position (drop i fs)
none_behind position [] zero h = tt
none_behind position [] (suc i) h = tt
none_behind position (f ∷ fs) zero h = absurd (omega arith)
none_behind position (f ∷ fs) (suc i) h = none_behind position fs i (omega arith)

pub begins_from : {C : Type 0} (position : ℕ) (fs : List (Frag C)) (i : ℕ) (x : Frag C) → StandsAt fs i x → position ≤ x.at → BeginsFrom position (drop i fs)
begins_from position fs i x e h = subst (BeginsFrom position) (sym e) h

pub none_from : {C : Type 0} (position : ℕ) (fs : List (Frag C)) (i : ℕ) → length fs ≤ i → BeginsFrom position (drop i fs)
none_from position [] zero h = tt
none_from position [] (suc i) h = tt
none_from position (f ∷ fs) zero h = absurd (omega arith)
none_from position (f ∷ fs) (suc i) h = none_from position fs i (omega arith)

-- What no part covers.
between_none : (from to : ℕ) → to ≤ from → between from to ≡ []
between_none from to h = grind (arith, nat_tests)

pub free_behind : {C : Type 0} (from to : ℕ) (fs : List (Frag C)) (i : ℕ) → EndBy from (take i fs) → free from to (drop i fs) ≡ free from to fs
free_behind from to [] zero e = refl
free_behind from to [] (suc i) e = refl
free_behind from to (f ∷ fs) zero e = refl
free_behind from to (f ∷ fs) (suc i) e =
    free_behind from to fs i e.1
    ∙ (λ i. sym (between_none from (min f.at to) (omega (arith, e.0))) i ++ free (max_is i) to fs)
  where
    max_is : from ≡ max from (end_of f)
    max_is = omega (arith, e.0)

pub free_last : {C : Type 0} (from to : ℕ) (fs : List (Frag C)) → BeginsFrom to fs → free from to fs ≡ between from to
free_last from to [] h = refl
free_last from to (f ∷ fs) h =
    (λ i. between from (min_is i) ++ none_beyond (max from (end_of f)) to (free (max from (end_of f)) to fs) (omega arith) (free_within (max from (end_of f)) to fs) i)
    ∙ append-nil (between from to)
  where
    min_is : min f.at to ≡ to
    min_is = omega arith

pub free_more : {C : Type 0} (from to : ℕ) (fs : List (Frag C)) (i : ℕ) (x : Frag C) → StandsAt fs i x → x.at < to
    → free from to (drop i fs) ≡ between from x.at ++ free (max from (end_of x)) to (drop (suc i) fs)
free_more from to fs i x e h = ap (free from to) e ∙ ap (λ (n : ℕ). between from n ++ free (max from (end_of x)) to (drop (suc i) fs)) (omega arith)

pub free_done : {C : Type 0} (next to : ℕ) (runs new all : List Range) (left : List (Frag C)) → BeginsFrom to left → new ≡ runs ++ between next to → runs ++ free next to left ≡ all → new ≡ all
free_done next to runs new all left b e h = e ∙ ap (λ rs. runs ++ rs) (sym (free_last next to left b)) ∙ h

-- One part more.
pub put_at : {C : Type 0} (low : ℕ) (f : Frag C) (fs : List (Frag C)) (i : ℕ) → Ascends low fs → 0 < length f.cells → IsClear f.at (end_of f) fs
    → EndBy f.at (take i fs) → EndsBehind f.at (drop i fs) → i ≤ length fs → put f fs ≡ insert fs i f
put_at low f [] zero a n c e b l = refl
put_at low f [] (suc i) a n c e b l = absurd (omega arith)
put_at low f (g ∷ gs) zero a n c e b l = ap (λ t. cond t (g ∷ put f gs) (f ∷ g ∷ gs)) (lt_no g.at f.at (omega (arith, before c.0)))
  where
    before : (end_of g ≤ f.at) ⊎ (end_of f ≤ g.at) → f.at < g.at
    before (inl h) = absurd (omega arith)
    before (inr h) = omega arith
put_at low f (g ∷ gs) (suc i) a n c e b l =
    ap (λ t. cond t (g ∷ put f gs) (f ∷ g ∷ gs)) (lt_yes g.at f.at (omega (arith, a.1, e.0)))
    ∙ ap (λ hs. g ∷ hs) (put_at (end_of g) f gs i a.2 n c.1 e.1 b (omega arith))

pub put_ends : {C : Type 0} (most : ℕ) (f : Frag C) (fs : List (Frag C)) → EndBy most fs → end_of f ≤ most → EndBy most (put f fs)
put_ends most f [] e h = (h, tt)
put_ends most f (g ∷ gs) e h = by (nat_lt g.at f.at) (put_ends most f gs e.1 h)
  where
    by : (b : Bool) → EndBy most (put f gs) → EndBy most (cond b (g ∷ put f gs) (f ∷ g ∷ gs))
    by true r = (e.0, r)
    by false r = (h, e)

pub put_size : {C : Type 0} (f : Frag C) (fs : List (Frag C)) → size (put f fs) ≡ length f.cells + size fs
put_size f [] = refl
put_size f (g ∷ gs) = by (nat_lt g.at f.at) (put_size f gs)
  where
    by : (b : Bool) → size (put f gs) ≡ length f.cells + size gs → size (cond b (g ∷ put f gs) (f ∷ g ∷ gs)) ≡ length f.cells + (length g.cells + size gs)
    by true r = omega (arith, r)
    by false r = refl

pub put_weight : {C : Type 0} (w : C → ℕ) (f : Frag C) (fs : List (Frag C)) → weight_in w (put f fs) ≡ w f.charge + weight_in w fs
put_weight w f [] = refl
put_weight w f (g ∷ gs) = by (nat_lt g.at f.at) (put_weight w f gs)
  where
    by : (b : Bool) → weight_in w (put f gs) ≡ w f.charge + weight_in w gs → weight_in w (cond b (g ∷ put f gs) (f ∷ g ∷ gs)) ≡ w f.charge + (w g.charge + weight_in w gs)
    by true r = omega (arith, r)
    by false r = refl

-- no more bytes than positions
pub size_fits : {C : Type 0} (low most : ℕ) (fs : List (Frag C)) → low ≤ most → Ascends low fs → EndBy most fs → low + size fs ≤ most
size_fits low most [] l a e = omega arith
size_fits low most (f ∷ fs) l a e = omega (arith, a.0, size_fits (end_of f) most fs e.0 a.2 e.1)

-- A later segment over parts.
with_count : (policy : Policy) (start : ℤ) (from : ℕ) (bytes : List ℕ) (at : ℕ) (cs : List Cell) → length (cells_with policy start from bytes at cs) ≡ length cs
with_count policy start from bytes at [] = refl
with_count policy start from bytes at (c ∷ cs) = ap suc (with_count policy start from bytes (suc at) cs)

pub over_before : {C : Type 0} (policy : Policy) (start : ℤ) (from : ℕ) (bytes : List ℕ) (fs : List (Frag C)) → EndBy from fs → overlaid policy start from bytes fs ≡ fs
over_before policy start from bytes [] e = refl
over_before policy start from bytes (f ∷ fs) e =
    (λ i. record f { cells = with_before policy start from bytes f.at f.cells (omega (arith, e.0)) i } ∷ over_before policy start from bytes fs e.1 i)

pub over_behind : {C : Type 0} (policy : Policy) (start : ℤ) (from : ℕ) (bytes : List ℕ) (low : ℕ) (fs : List (Frag C)) → Ascends low fs → BeginsFrom (from + length bytes) fs
    → overlaid policy start from bytes fs ≡ fs
over_behind policy start from bytes low [] a h = refl
over_behind {C = C} policy start from bytes low (f ∷ fs) a h =
    (λ i. record f { cells = with_behind policy start from bytes f.at f.cells (λ _. h) i } ∷ over_behind policy start from bytes (end_of f) fs a.2 (later fs a.2) i)
  where
    later : (gs : List (Frag C)) → Ascends (end_of f) gs → BeginsFrom (from + length bytes) gs
    later [] b = tt
    later (g ∷ gs) b = omega (arith, b.0, a.1)

ascends_from : {C : Type 0} (low : ℕ) (fs : List (Frag C)) (i : ℕ) → Ascends low fs → Ascends low (drop i fs)
ascends_from low fs zero a = a
ascends_from low [] (suc i) a = tt
ascends_from {C = C} low (f ∷ fs) (suc i) a = lower (drop i fs) (ascends_from (end_of f) fs i a.2)
  where
    lower : (gs : List (Frag C)) → Ascends (end_of f) gs → Ascends low gs
    lower [] b = tt
    lower (g ∷ gs) b = (omega (arith, a.0, b.0), b.1, b.2)

-- those in front are settled, the others are as they were
abbrev pub front_overlaid : {C : Type 0} → Policy → ℤ → ℕ → List ℕ → ℕ → List (Frag C) → List (Frag C)
front_overlaid policy start from bytes n fs = overlaid policy start from bytes (take n fs) ++ drop n fs

pub front_before : {C : Type 0} (policy : Policy) (start : ℤ) (from : ℕ) (bytes : List ℕ) (n : ℕ) (fs : List (Frag C)) → EndBy from (take n fs) → fs ≡ front_overlaid policy start from bytes n fs
front_before policy start from bytes n fs e = sym (take-append-drop n fs) ∙ ap (λ gs. gs ++ drop n fs) (sym (over_before policy start from bytes (take n fs) e))

pub front_all : {C : Type 0} (policy : Policy) (start : ℤ) (from : ℕ) (bytes : List ℕ) (low n : ℕ) (fs : List (Frag C)) → Ascends low fs → BeginsFrom (from + length bytes) (drop n fs)
    → front_overlaid policy start from bytes n fs ≡ overlaid policy start from bytes fs
front_all policy start from bytes low n fs a h =
    ap (λ gs. overlaid policy start from bytes (take n fs) ++ gs) (sym (over_behind policy start from bytes low (drop n fs) (ascends_from low fs n a) h))
    ∙ sym (map-append (overlaid_one policy start from bytes) (take n fs) (drop n fs))
    ∙ ap (overlaid policy start from bytes) (take-append-drop n fs)

-- What stays the same of parts of which those in front are settled.
pub front_ascends : {C : Type 0} (policy : Policy) (start : ℤ) (from : ℕ) (bytes : List ℕ) (n low : ℕ) (fs : List (Frag C)) → Ascends low fs → Ascends low (front_overlaid policy start from bytes n fs)
front_ascends policy start from bytes zero low fs a = a
front_ascends policy start from bytes (suc n) low [] a = tt
front_ascends policy start from bytes (suc n) low (f ∷ fs) a =
    (a.0, subst (λ (k : ℕ). 0 < k) (sym count) a.1, subst (λ (k : ℕ). Ascends (f.at + k) (front_overlaid policy start from bytes n fs)) (sym count) (front_ascends policy start from bytes n (end_of f) fs a.2))
  where
    count : length (cells_with policy start from bytes f.at f.cells) ≡ length f.cells
    count = with_count policy start from bytes f.at f.cells

pub front_ends : {C : Type 0} (policy : Policy) (start : ℤ) (from : ℕ) (bytes : List ℕ) (n most : ℕ) (fs : List (Frag C)) → EndBy most fs → EndBy most (front_overlaid policy start from bytes n fs)
front_ends policy start from bytes zero most fs e = e
front_ends policy start from bytes (suc n) most [] e = tt
front_ends policy start from bytes (suc n) most (f ∷ fs) e =
    (subst (λ (k : ℕ). f.at + k ≤ most) (sym (with_count policy start from bytes f.at f.cells)) e.0, front_ends policy start from bytes n most fs e.1)

pub front_size : {C : Type 0} (policy : Policy) (start : ℤ) (from : ℕ) (bytes : List ℕ) (n : ℕ) (fs : List (Frag C)) → size (front_overlaid policy start from bytes n fs) ≡ size fs
front_size policy start from bytes zero fs = refl
front_size policy start from bytes (suc n) [] = refl
front_size policy start from bytes (suc n) (f ∷ fs) = (λ i. with_count policy start from bytes f.at f.cells i + front_size policy start from bytes n fs i)

pub front_weight : {C : Type 0} (w : C → ℕ) (policy : Policy) (start : ℤ) (from : ℕ) (bytes : List ℕ) (n : ℕ) (fs : List (Frag C)) → weight_in w (front_overlaid policy start from bytes n fs) ≡ weight_in w fs
front_weight w policy start from bytes zero fs = refl
front_weight w policy start from bytes (suc n) [] = refl
front_weight w policy start from bytes (suc n) (f ∷ fs) = ap (λ (k : ℕ). w f.charge + k) (front_weight w policy start from bytes n fs)

-- Bytes past the end of all parts do not matter.
is_lt : (a b : ℕ) → nat_lt a b ≡ true → a < b
is_lt a b t = grind (arith, nat_tests)

not_lt : (a b : ℕ) → nat_lt a b ≡ false → b ≤ a
not_lt a b t = grind (arith, nat_tests)

is_le : (a b : ℕ) → nat_le a b ≡ true → a ≤ b
is_le a b t = grind (arith, nat_tests)

get_front : (bytes : List ℕ) (n k : ℕ) → k < n → slice_get (take n bytes) k ≡ slice_get bytes k
get_front [] n k h = ap (λ bs. slice_get bs k) (take_nothing n)
  where
    take_nothing : (m : ℕ) → ◌≡◌ {A = List ℕ} (take m []) []
    take_nothing zero = refl
    take_nothing (suc m) = refl
get_front (b ∷ bytes) zero k h = absurd (omega arith)
get_front (b ∷ bytes) (suc n) zero h = refl
get_front (b ∷ bytes) (suc n) (suc k) h = get_front bytes n k (omega arith)

byte_within : (from : ℕ) (bytes : List ℕ) (n most q : ℕ) → n ≡ min (most - from) (length bytes) → q < most → byte_at from (take n bytes) q ≡ byte_at from bytes q
byte_within from bytes n most q e l = by (nat_le from q) refl
  where
    within : from ≤ q → (t : Bool) → nat_lt (q - from) n ≡ t → slice_get (take n bytes) (q - from) ≡ slice_get bytes (q - from)
    within f true t = get_front bytes n (q - from) (is_lt (q - from) n t)
    within f false t = let h : n ≤ q - from = not_lt (q - from) n t in ap (λ bs. slice_get bs (q - from)) (take_all n bytes (omega arith))

    by : (b : Bool) → nat_le from q ≡ b → cond b (slice_get (take n bytes) (q - from)) None ≡ cond b (slice_get bytes (q - from)) None
    by true t = within (is_le from q t) (nat_lt (q - from) n) refl
    by false t = refl

cells_within : (policy : Policy) (start : ℤ) (from : ℕ) (bytes : List ℕ) (n most at : ℕ) (cs : List Cell) → n ≡ min (most - from) (length bytes) → at + length cs ≤ most
    → cells_with policy start from (take n bytes) at cs ≡ cells_with policy start from bytes at cs
cells_within policy start from bytes n most at [] e h = refl
cells_within policy start from bytes n most at (c ∷ cs) e h =
    (λ i. cell_with policy start c (byte_within from bytes n most at e (omega arith) i) ∷ cells_within policy start from bytes n most (suc at) cs e (omega arith) i)

pub over_within : {C : Type 0} (policy : Policy) (start : ℤ) (from : ℕ) (bytes : List ℕ) (n most : ℕ) (fs : List (Frag C)) → n ≡ min (most - from) (length bytes) → EndBy most fs
    → overlaid policy start from (take n bytes) fs ≡ overlaid policy start from bytes fs
over_within policy start from bytes n most [] e h = refl
over_within policy start from bytes n most (f ∷ fs) e h =
    (λ i. record f { cells = cells_within policy start from bytes n most f.at f.cells e h.0 i } ∷ over_within policy start from bytes n most fs e h.1 i)

ends_front : {C : Type 0} (most n : ℕ) (fs : List (Frag C)) → EndBy most fs → EndBy most (take n fs)
ends_front most zero fs e = tt
ends_front most (suc n) [] e = tt
ends_front most (suc n) (f ∷ fs) e = (e.0, ends_front most n fs e.1)

pub front_within : {C : Type 0} (policy : Policy) (start : ℤ) (from : ℕ) (bytes : List ℕ) (n most k : ℕ) (fs : List (Frag C)) → n ≡ min (most - from) (length bytes) → EndBy most fs
    → front_overlaid policy start from (take n bytes) k fs ≡ front_overlaid policy start from bytes k fs
front_within policy start from bytes n most k fs e h = ap (λ gs. gs ++ drop k fs) (over_within policy start from bytes n most (take k fs) e (ends_front most k fs h))

-- What was not reached yet.
pub front_left : {C : Type 0} (policy : Policy) (start : ℤ) (from : ℕ) (bytes : List ℕ) (n : ℕ) (fs : List (Frag C)) → drop n (front_overlaid policy start from bytes n fs) ≡ drop n fs
front_left policy start from bytes zero fs = refl
front_left policy start from bytes (suc n) [] = refl
front_left policy start from bytes (suc n) (f ∷ fs) = front_left policy start from bytes n fs

pub front_done : {C : Type 0} (policy : Policy) (start : ℤ) (from to : ℕ) (bytes : List ℕ) (n : ℕ) (fs new : List (Frag C)) → to ≡ from + length bytes → Ascends 0 fs → new ≡ front_overlaid policy start from bytes n fs
    → BeginsFrom to (drop n new) → new ≡ overlaid policy start from bytes fs
front_done policy start from to bytes n fs new e a w b =
    w ∙ front_all policy start from bytes 0 n fs a (subst (λ (k : ℕ). BeginsFrom k (drop n fs)) e (subst (BeginsFrom to) (ap (drop n) w ∙ front_left policy start from bytes n fs) b))

-- A segment that was cut at the end of all positions.
pub front_cut : {C : Type 0} (policy : Policy) (start start' : ℤ) (from : ℕ) (bytes short : List ℕ) (n k : ℕ) (fs new : List (Frag C)) → start' ≡ start → short ≡ take n bytes → n ≡ min (2 ^ 62 - from) (length bytes)
    → EndBy (2 ^ 62) fs → new ≡ front_overlaid policy start' from short k fs → new ≡ front_overlaid policy start from bytes k fs
front_cut policy start start' from bytes short n k fs new e f m h w =
    w
    ∙ (λ i. front_overlaid policy (e i) from (f i) k fs)
    ∙ front_within policy start from bytes n (2 ^ 62) k fs m h

pub over_cut : {C : Type 0} (policy : Policy) (start start' : ℤ) (from : ℕ) (bytes short : List ℕ) (n : ℕ) (fs : List (Frag C)) → start' ≡ start → short ≡ take n bytes → n ≡ min (2 ^ 62 - from) (length bytes)
    → EndBy (2 ^ 62) fs → overlaid policy start' from short fs ≡ overlaid policy start from bytes fs
over_cut policy start start' from bytes short n fs e f m h = (λ i. overlaid policy (e i) from (f i) fs) ∙ over_within policy start from bytes n (2 ^ 62) fs m h

-- One part more is settled.
pub front_more : {C : Type 0} (policy : Policy) (start : ℤ) (from : ℕ) (bytes : List ℕ) (n : ℕ) (old items : List (Frag C)) (x new : Frag C) → n < length old → items ≡ front_overlaid policy start from bytes n old
    → x ≡ get_or items n x → new ≡ overlaid_one policy start from bytes x → set items n new ≡ front_overlaid policy start from bytes (n + 1) old
front_more policy start from bytes n old items x new l e i h = ap (set items n) h ∙ map_over_more (overlaid_one policy start from bytes) old items n x l e i
