-- The runs of a segment are the ranges that no part covers.
use Rattle.std.specs.Prelude.{◌≡◌, refl, ℕ, suc, ◌+◌, ◌-◌, ◌<◌, ◌≤◌, Bool, true, false, not, cond, ◌==◌, nat_lt, nat_le, List, [], ◌∷◌, ◌++◌, length, map, filter, take, drop, min, max, None, ℤ}
use Rattle.std.specs.List.{list_any}
use Rattle.std.proofs.Common.{sym, ◌∙◌, ap, subst, arith, append-nil}
use Rattle.std.proofs.lemmas.Bool.Decides.{nat_tests}
use Rattle.std.proofs.lemmas.Grind.{common_steps}
use Rattle.streamdefs.specs.Lists.{Each}
use Rattle.streamdefs.specs.Reorder.{Charge, Placed, placed_from, stretches, beside, stands_in, is_at}
use Rattle.streamdefs.specs.Ranges.{Range, between}
use Rattle.reorder.specs.Frags.{Cell, Frag, end_of, Ascends, cells_from, with_charge, spread_one, spread, free, slice, run_in}

-- whether a position is covered by a part
abbrev pub is_in : ℕ → ℕ → ℕ → Bool
is_in from to q = cond (nat_le from q) (nat_lt q to) false

abbrev pub is_covered : {C : Type 0} → List (Frag C) → ℕ → Bool
is_covered [] q = false
is_covered (f ∷ fs) q = cond (is_in f.at (end_of f) q) true (is_covered fs q)

any-append : (test : Placed → Bool) (ps qs : List Placed) → list_any test (ps ++ qs) ≡ cond (list_any test ps) true (list_any test qs)
any-append test [] qs = refl
any-append test (p ∷ ps) qs = by (test p) (any-append test ps qs)
  where
    by : (b : Bool) → list_any test (ps ++ qs) ≡ cond (list_any test ps) true (list_any test qs)
        → mathlib.Core.Bool.◌||◌ b (list_any test (ps ++ qs)) ≡ cond (mathlib.Core.Bool.◌||◌ b (list_any test ps)) true (list_any test qs)
    by true e = refl
    by false e = e

stands_cells : (at : ℕ) (cs : List Cell) (q : ℕ) → stands_in (cells_from at cs) q ≡ is_in at (at + length cs) q
stands_cells at [] q = grind (arith, nat_tests)
stands_cells at (c ∷ cs) q = grind (arith, nat_tests, stands_cells (suc at) cs q)

stands_charged : (charge : Charge) (ps : List Placed) (q : ℕ) → stands_in (with_charge charge ps) q ≡ stands_in ps q
stands_charged charge [] q = refl
stands_charged charge (p ∷ ps) q = refl

-- a position is held where a part covers it
pub stands_is : {C : Type 0} (paid : C → Charge) (fs : List (Frag C)) (q : ℕ) → stands_in (spread paid fs) q ≡ is_covered fs q
stands_is paid [] q = refl
stands_is paid (f ∷ fs) q =
    any-append (is_at q) (spread_one paid f) (spread paid fs)
    ∙ ap (λ b. cond b true (stands_in (spread paid fs) q)) (stands_charged (paid f.charge) (cells_from f.at f.cells) q ∙ stands_cells f.at f.cells q)
    ∙ ap (cond (is_in f.at (end_of f) q) true) (stands_is paid fs q)

-- Ranges within bounds, none of them empty.
abbrev pub IsWithin : ℕ → ℕ → Range → Type 0
IsWithin from to r = (from ≤ r.at) × (0 < r.len) × (r.at + r.len ≤ to)

within_more : (low from to : ℕ) (rs : List Range) → low ≤ from → Each (IsWithin from to) rs → Each (IsWithin low to) rs
within_more low from to [] h w = tt
within_more low from to (r ∷ rs) h w = ((omega (arith, w.0.0), w.0.1, w.0.2), within_more low from to rs h w.1)

within_between : (from m to : ℕ) (rest : List Range) → m ≤ to → Each (IsWithin from to) rest → Each (IsWithin from to) (between from m ++ rest)
within_between from m to rest h w = by (nat_lt from m) refl
  where
    by : (b : Bool) → nat_lt from m ≡ b → Each (IsWithin from to) (cond b (record { at = from; len = m - from } ∷ []) [] ++ rest)
    by true e = ((omega arith, grind (arith, nat_tests), grind (arith, nat_tests)), w)
    by false e = w

between_none : (from to : ℕ) → to ≤ from → between from to ≡ []
between_none from to h = grind (arith, nat_tests)

between_some : (from to : ℕ) → from < to → between from to ≡ record { at = from; len = to - from } ∷ []
between_some from to h = grind (arith, nat_tests)

pub free_within : {C : Type 0} (from to : ℕ) (fs : List (Frag C)) → Each (IsWithin from to) (free from to fs)
free_within from to [] = subst (λ rs. Each (IsWithin from to) rs) (append-nil (between from to)) (within_between from to to [] (omega arith) tt)
free_within from to (f ∷ fs) =
    within_between from (min f.at to) to (free (max from (end_of f)) to fs) (omega arith) (within_more from (max from (end_of f)) to (free (max from (end_of f)) to fs) (omega arith) (free_within (max from (end_of f)) to fs))

-- One position more in front.
abbrev pub grow : ℕ → List Range → List Range
grow at [] = record { at = at; len = 1 } ∷ []
grow at (r ∷ rs) = cond (r.at == suc at) (record { at = at; len = suc r.len } ∷ rs) (record { at = at; len = 1 } ∷ r ∷ rs)

pub none_beyond : (from to : ℕ) (rs : List Range) → to ≤ from → Each (IsWithin from to) rs → rs ≡ []
none_beyond from to [] h w = refl
none_beyond from to (r ∷ rs) h w = absurd (omega (arith, w.0.0, w.0.1, w.0.2))

grow_apart : (at from to : ℕ) (rs : List Range) → suc at < from → Each (IsWithin from to) rs → grow at rs ≡ record { at = at; len = 1 } ∷ rs
grow_apart at from to [] h w = refl
grow_apart at from to (r ∷ rs) h w = grind (arith, nat_tests, w.0.0)

range_is : (at a b : ℕ) (rest : List Range) → a ≡ b → record { at = at; len = a } ∷ rest ≡ record { at = at; len = b } ∷ rest
range_is at a b rest e = ap (λ n. record { at = at; len = n } ∷ rest) e

grow_joined : (at n : ℕ) (rest : List Range) → grow at (record { at = suc at; len = n } ∷ rest) ≡ record { at = at; len = suc n } ∷ rest
grow_joined at n rest = grind (arith, nat_tests)

grow_between : (at m end to : ℕ) (rest : List Range) → at < m → suc at < end → Each (IsWithin end to) rest → between at m ++ rest ≡ grow at (between (suc at) m ++ rest)
grow_between at m end to rest low high w = by (nat_lt (suc at) m) refl
  where
    here : between at m ++ rest ≡ record { at = at; len = m - at } ∷ rest
    here = ap (λ rs. rs ++ rest) (between_some at m low)

    by : (b : Bool) → nat_lt (suc at) m ≡ b → between at m ++ rest ≡ grow at (cond b (record { at = suc at; len = m - suc at } ∷ []) [] ++ rest)
    by true e = here ∙ range_is at (m - at) (suc (m - suc at)) rest (grind (arith, nat_tests)) ∙ sym (grow_joined at (m - suc at) rest)
    by false e = here ∙ range_is at (m - at) 1 rest (grind (arith, nat_tests)) ∙ sym (grow_apart at end to rest high w)

grow_last : (at to : ℕ) → at < to → between at to ≡ grow at (between (suc at) to)
grow_last at to h = sym (append-nil (between at to)) ∙ grow_between at to (suc (suc at)) to [] h (omega arith) tt ∙ ap (grow at) (append-nil (between (suc at) to))

-- where no part covers the position, the first range begins with it; where one does, it is none's
pub free_grows : {C : Type 0} (low at to : ℕ) (fs : List (Frag C)) → Ascends low fs → at < to → is_covered fs at ≡ false → free at to fs ≡ grow at (free (suc at) to fs)
free_grows low at to [] a h c = grow_last at to h
free_grows low at to (f ∷ fs) a h c = by (nat_lt at f.at) refl (free_grows (end_of f) at to fs a.2 h)
  where
    later : is_covered fs at ≡ false
    later = grind arith

    before : at < f.at → between at (min f.at to) ++ free (max at (end_of f)) to fs ≡ grow at (between (suc at) (min f.at to) ++ free (max (suc at) (end_of f)) to fs)
    before l =
        ap (λ n. between at (min f.at to) ++ free n to fs) (omega (arith, a.1))
        ∙ grow_between at (min f.at to) (end_of f) to (free (end_of f) to fs) (omega arith) (omega (arith, a.1)) (free_within (end_of f) to fs)
        ∙ ap (λ n. grow at (between (suc at) (min f.at to) ++ free n to fs)) (omega (arith, a.1))

    behind : end_of f ≤ at → free at to fs ≡ grow at (free (suc at) to fs) → between at (min f.at to) ++ free (max at (end_of f)) to fs ≡ grow at (between (suc at) (min f.at to) ++ free (max (suc at) (end_of f)) to fs)
    behind l e =
        ap (λ rs. rs ++ free (max at (end_of f)) to fs) (between_none at (min f.at to) (omega (arith, a.1)))
        ∙ ap (λ n. free n to fs) (omega arith)
        ∙ e
        ∙ ap (λ n. grow at (free n to fs)) (omega arith)
        ∙ ap (λ rs. grow at (rs ++ free (max (suc at) (end_of f)) to fs)) (sym (between_none (suc at) (min f.at to) (omega (arith, a.1))))

    past : nat_lt at f.at ≡ false → end_of f ≤ at
    past e = grind (arith, nat_tests)

    by : (b : Bool) → nat_lt at f.at ≡ b → (is_covered fs at ≡ false → free at to fs ≡ grow at (free (suc at) to fs))
        → between at (min f.at to) ++ free (max at (end_of f)) to fs ≡ grow at (between (suc at) (min f.at to) ++ free (max (suc at) (end_of f)) to fs)
    by true e rest = before (grind (arith, nat_tests))
    by false e rest = behind (past e) (rest later)

pub none_covers : {C : Type 0} (low at : ℕ) (fs : List (Frag C)) → Ascends low fs → at < low → is_covered fs at ≡ false
none_covers low at [] a h = refl
none_covers low at (f ∷ fs) a h = grind (arith, nat_tests, a.0, a.1, none_covers (end_of f) at fs a.2)

pub free_skips : {C : Type 0} (low at to : ℕ) (fs : List (Frag C)) → Ascends low fs → at < to → is_covered fs at ≡ true → free at to fs ≡ free (suc at) to fs
free_skips low at to [] a h c = absurd (cc)
free_skips low at to (f ∷ fs) a h c = by (nat_lt at (end_of f)) refl (free_skips (end_of f) at to fs a.2 h)
  where
    first_not : at < f.at → is_covered (f ∷ fs) at ≡ false
    first_not l = none_covers f.at at (f ∷ fs) (omega arith, a.1, a.2) l

    begun : f.at ≤ at
    begun = grind (arith, nat_tests, c, first_not)

    by : (b : Bool) → nat_lt at (end_of f) ≡ b → (is_covered fs at ≡ true → free at to fs ≡ free (suc at) to fs)
        → between at (min f.at to) ++ free (max at (end_of f)) to fs ≡ between (suc at) (min f.at to) ++ free (max (suc at) (end_of f)) to fs
    by true e rest =
        ap (λ rs. rs ++ free (max at (end_of f)) to fs) (between_none at (min f.at to) (omega (arith, begun)) ∙ sym (between_none (suc at) (min f.at to) (omega (arith, begun))))
        ∙ ap (λ n. between (suc at) (min f.at to) ++ free n to fs) (grind (arith, nat_tests))
    by false e rest =
        ap (λ rs. rs ++ free (max at (end_of f)) to fs) (between_none at (min f.at to) (omega (arith, begun)) ∙ sym (between_none (suc at) (min f.at to) (omega (arith, begun))))
        ∙ ap (λ n. between (suc at) (min f.at to) ++ free n to fs) (grind (arith, nat_tests))
        ∙ ap (λ rs. between (suc at) (min f.at to) ++ rs) (rest (grind (arith, nat_tests)))
        ∙ ap (λ n. between (suc at) (min f.at to) ++ free n to fs) (grind (arith, nat_tests))

same_slice : (start : ℤ) (bytes : List ℕ) {at at' d d' n n' : ℕ} → at ≡ at' → d ≡ d' → n ≡ n' → slice at start d n bytes ≡ slice at' start d' n' bytes
same_slice start bytes p q r = λ i. slice (p i) start (q i) (r i) bytes

run_behind : (lo : ℕ) (start : ℤ) (b : ℕ) (bytes : List ℕ) (r : Range) → suc lo ≤ r.at → run_in (suc lo) start bytes r ≡ run_in lo start (b ∷ bytes) r
run_behind lo start b bytes r h = same_slice start (b ∷ bytes) {at = r.at} {at' = r.at} {d = suc (r.at - suc lo)} {d' = r.at - lo} {n = r.len} {n' = r.len} refl (omega (arith, h)) refl

runs_behind : (lo to : ℕ) (start : ℤ) (b : ℕ) (bytes : List ℕ) (rs : List Range) → Each (IsWithin (suc lo) to) rs → map (run_in (suc lo) start bytes) rs ≡ map (run_in lo start (b ∷ bytes)) rs
runs_behind lo to start b bytes [] w = refl
runs_behind lo to start b bytes (r ∷ rs) w = λ i. run_behind lo start b bytes r w.0.0 i ∷ runs_behind lo to start b bytes rs w.1 i

some_bytes : (d n : ℕ) (bytes : List ℕ) → d + n ≤ length bytes → length (take n (drop d bytes)) ≡ n
some_bytes d n bytes h = grind (arith, common_steps)

lone_run : (lo : ℕ) (start : ℤ) (b : ℕ) (bytes : List ℕ) → run_in lo start (b ∷ bytes) (record { at = lo; len = 1 }) ≡ record { at = lo; byte = b; start = start; charge = None } ∷ []
lone_run lo start b bytes = same_slice start (b ∷ bytes) {at = lo} {at' = lo} {d = lo - lo} {d' = 0} {n = 1} {n' = 1} refl (omega arith) refl

joined_run : (lo n : ℕ) (start : ℤ) (b : ℕ) (bytes : List ℕ) → record { at = lo; byte = b; start = start; charge = None } ∷ slice (suc lo) start 0 n bytes ≡ run_in lo start (b ∷ bytes) (record { at = lo; len = suc n })
joined_run lo n start b bytes = same_slice start (b ∷ bytes) {at = lo} {at' = lo} {d = 0} {d' = lo - lo} {n = suc n} {n' = suc n} refl (omega arith) refl

-- a byte beside the runs behind it
beside_runs : (lo : ℕ) (start : ℤ) (b : ℕ) (bytes : List ℕ) (rs : List Range) → Each (IsWithin (suc lo) (suc lo + length bytes)) rs
    → beside (record { at = lo; byte = b; start = start; charge = None }) (map (run_in (suc lo) start bytes) rs) ≡ map (run_in lo start (b ∷ bytes)) (grow lo rs)
beside_runs lo start b bytes [] w = ap (λ ps. ps ∷ []) (sym (lone_run lo start b bytes))
beside_runs lo start b bytes (r ∷ rs) w = by (take r.len (drop (r.at - suc lo) bytes)) refl (some_bytes (r.at - suc lo) r.len bytes (omega (arith, w.0)))
  where
    p : Placed
    p = record { at = lo; byte = b; start = start; charge = None }

    later : map (run_in (suc lo) start bytes) rs ≡ map (run_in lo start (b ∷ bytes)) rs
    later = runs_behind lo (suc lo + length bytes) start b bytes rs w.1

    beside_is : (same : Bool) (c : ℕ) (cs : List ℕ) → (r.at == suc lo) ≡ same → take r.len (drop (r.at - suc lo) bytes) ≡ c ∷ cs
        → cond same ((p ∷ placed_from r.at start (c ∷ cs)) ∷ map (run_in (suc lo) start bytes) rs) ((p ∷ []) ∷ placed_from r.at start (c ∷ cs) ∷ map (run_in (suc lo) start bytes) rs)
        ≡ map (run_in lo start (b ∷ bytes)) (cond same (record { at = lo; len = suc r.len } ∷ rs) (record { at = lo; len = 1 } ∷ r ∷ rs))
    beside_is true c cs e q =
        ap (λ ps. (p ∷ ps) ∷ map (run_in (suc lo) start bytes) rs) (ap (placed_from r.at start) (sym q) ∙ same_slice start bytes {at = r.at} {at' = suc lo} {d = r.at - suc lo} {d' = 0} {n = r.len} {n' = r.len} (grind (arith, nat_tests)) (grind (arith, nat_tests)) refl)
        ∙ (λ i. joined_run lo r.len start b bytes i ∷ later i)
    beside_is false c cs e q =
        ap (λ ps. (p ∷ []) ∷ ps ∷ map (run_in (suc lo) start bytes) rs) (ap (placed_from r.at start) (sym q))
        ∙ (λ i. sym (lone_run lo start b bytes) i ∷ run_behind lo start b bytes r w.0.0 i ∷ later i)

    by : (bs : List ℕ) → take r.len (drop (r.at - suc lo) bytes) ≡ bs → length bs ≡ r.len
        → beside p (placed_from r.at start bs ∷ map (run_in (suc lo) start bytes) rs)
        ≡ map (run_in lo start (b ∷ bytes)) (cond (r.at == suc lo) (record { at = lo; len = suc r.len } ∷ rs) (record { at = lo; len = 1 } ∷ r ∷ rs))
    by [] e l = absurd (omega (arith, w.0.1))
    by (c ∷ cs) e l = beside_is (r.at == suc lo) c cs refl e

-- the runs of what no part covers are the free ranges
pub free_runs : {C : Type 0} (low lo : ℕ) (start : ℤ) (bytes : List ℕ) (fs : List (Frag C)) → Ascends low fs
    → stretches (filter (λ p. not (is_covered fs p.at)) (placed_from lo start bytes)) ≡ map (run_in lo start bytes) (free lo (lo + length bytes) fs)
free_runs low lo start [] fs a = ap (map (run_in lo start [])) (sym (none_beyond lo (lo + 0) (free lo (lo + 0) fs) (omega arith) (free_within lo (lo + 0) fs)))
free_runs low lo start (b ∷ bytes) fs a = by (is_covered fs lo) refl (free_runs low (suc lo) start bytes fs a)
  where
    end_is : suc lo + length bytes ≡ lo + suc (length bytes)
    end_is = omega arith

    within : Each (IsWithin (suc lo) (suc lo + length bytes)) (free (suc lo) (suc lo + length bytes) fs)
    within = free_within (suc lo) (suc lo + length bytes) fs

    by : (c : Bool) → is_covered fs lo ≡ c
        → stretches (filter (λ p. not (is_covered fs p.at)) (placed_from (suc lo) start bytes)) ≡ map (run_in (suc lo) start bytes) (free (suc lo) (suc lo + length bytes) fs)
        → stretches (cond (not c) (record { at = lo; byte = b; start = start; charge = None } ∷ filter (λ p. not (is_covered fs p.at)) (placed_from (suc lo) start bytes)) (filter (λ p. not (is_covered fs p.at)) (placed_from (suc lo) start bytes)))
        ≡ map (run_in lo start (b ∷ bytes)) (free lo (lo + suc (length bytes)) fs)
    by true e rest =
        rest
        ∙ runs_behind lo (suc lo + length bytes) start b bytes (free (suc lo) (suc lo + length bytes) fs) within
        ∙ ap (λ to. map (run_in lo start (b ∷ bytes)) (free (suc lo) to fs)) end_is
        ∙ ap (map (run_in lo start (b ∷ bytes))) (sym (free_skips low lo (lo + suc (length bytes)) fs a (omega arith) e))
    by false e rest =
        ap (beside (record { at = lo; byte = b; start = start; charge = None })) rest
        ∙ beside_runs lo start b bytes (free (suc lo) (suc lo + length bytes) fs) within
        ∙ ap (λ to. map (run_in lo start (b ∷ bytes)) (grow lo (free (suc lo) to fs))) end_is
        ∙ ap (map (run_in lo start (b ∷ bytes))) (sym (free_grows low lo (lo + suc (length bytes)) fs a (omega arith) e))

-- the maximal runs of positions that are not held
pub uncovered_is : {C : Type 0} (paid : C → Charge) (from : ℕ) (start : ℤ) (bytes : List ℕ) (fs : List (Frag C)) → Ascends 0 fs
    → map (run_in from start bytes) (free from (from + length bytes) fs) ≡ stretches (filter (λ p. not (stands_in (spread paid fs) p.at)) (placed_from from start bytes))
uncovered_is paid from start bytes fs a =
    sym (free_runs 0 from start bytes fs a)
    ∙ (λ i. stretches (filter (λ p. not (sym (stands_is paid fs p.at) i)) (placed_from from start bytes)))
