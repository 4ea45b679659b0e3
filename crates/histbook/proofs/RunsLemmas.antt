-- The runs that are kept are the longest runs of the list.
use Rattle.std.proofs.Common.{◌≡◌, ℕ, zero, suc, ◌+◌, ◌^◌, ◌<◌, ◌≤◌, Bool, true, false, List, [], ◌∷◌, ◌++◌, length, take, set, get_or, replicate, refl, ap, sym, ◌∙◌, subst, arith, append_assoc, length-append, eq-eqb, eqb-true, add-one}
use Rattle.std.specs.Prelude.{nat_eq, if◌then◌else◌}
use Rattle.std.proofs.lemmas.List.{append-nil, replicate-append-replicate, length-replicate, length-take-le}
use Rattle.std.proofs.lemmas.Grind.{flat_map-append}
use Rattle.std.proofs.Math.Seq.{take-suc, take-length, set-append_seam}
use Rattle.histbook.specs.Runs.{spread, with_run, runs_of, IsApart, AreKept, AreBelow, IsOther, AreLongest, HasShortRuns}

-- the last element of a list
module _ {A : Type 0} where
  pub last_split : (xs : List A) (i : ℕ) (d : A) → length xs ≡ i + 1 → xs ≡ take i xs ++ get_or xs i d ∷ []
  last_split xs i d e =
      let whole : take (suc i) xs ≡ xs = ap (λ (n : ℕ). take n xs) (sym (e ∙ add-one i)) ∙ take-length xs in
      sym whole ∙ take-suc xs i d (omega arith)

  pub last_set : (xs : List A) (i : ℕ) (d v : A) → length xs ≡ i + 1 → set xs i v ≡ take i xs ++ v ∷ []
  last_set xs i d v e =
      let front : length (take i xs) ≡ i = length-take-le i xs (omega arith) in
      ap (λ (l : List A). set l i v) (last_split xs i d e)
      ∙ ap (λ (n : ℕ). set (take i xs ++ get_or xs i d ∷ []) n v) (sym front) ∙ set-append_seam (take i xs) (get_or xs i d) [] v

-- an element in place of another of its core that counts no more, and others behind it
apart_changed : (run : ℕ × ℕ) (front : List (ℕ × ℕ)) (a b : ℕ × ℕ) (tail : List (ℕ × ℕ)) → a.0 ≡ b.0 → a.1 ≤ b.1
    → IsApart run (front ++ a ∷ []) → IsApart run (front ++ b ∷ tail)
apart_changed run [] a b tail same more apart = λ e. let h = apart (e ∙ sym same) in omega arith
apart_changed run (next ∷ front) a b tail same more apart = apart

kept_changed : (front : List (ℕ × ℕ)) (a b : ℕ × ℕ) (tail : List (ℕ × ℕ)) → a.0 ≡ b.0 → a.1 ≤ b.1 → AreKept (front ++ a ∷ []) → AreKept (b ∷ tail) → AreKept (front ++ b ∷ tail)
kept_changed [] a b tail same more kept behind = behind
kept_changed (run ∷ front) a b tail same more kept behind =
    (kept.0, apart_changed run front a b tail same more kept.1, kept_changed front a b tail same more kept.2 behind)

last_counts : (front : List (ℕ × ℕ)) (a : ℕ × ℕ) → AreKept (front ++ a ∷ []) → 1 ≤ a.1
last_counts [] a kept = kept.0
last_counts (run ∷ front) a kept = last_counts front a kept.2

-- the last run counts on
pub grown_kept : (xs : List (ℕ × ℕ)) (i : ℕ) (run : ℕ × ℕ) (core sum count : ℕ) → length xs ≡ i + 1 → get_or xs i run ≡ run → run.0 ≡ core → sum ≡ run.1 + count
    → AreKept xs → AreKept (set xs i (core, sum))
grown_kept xs i run core sum count e at same added kept =
    let split : xs ≡ take i xs ++ run ∷ [] = last_split xs i run e ∙ ap (λ (r : ℕ × ℕ). take i xs ++ r ∷ []) at in
    let before : AreKept (take i xs ++ run ∷ []) = subst AreKept split kept in
    let some = last_counts (take i xs) run before in
    subst AreKept (sym (last_set xs i run (core, sum) e)) (kept_changed (take i xs) run (core, sum) [] same (omega arith) before (omega arith, tt, tt))

pub grown_spread : (xs : List (ℕ × ℕ)) (i : ℕ) (run : ℕ × ℕ) (core sum count : ℕ) → length xs ≡ i + 1 → get_or xs i run ≡ run → run.0 ≡ core → sum ≡ run.1 + count
    → spread (set xs i (core, sum)) ≡ spread xs ++ replicate count core
grown_spread xs i run core sum count e at same added =
    let split : xs ≡ take i xs ++ run ∷ [] = last_split xs i run e ∙ ap (λ (r : ℕ × ℕ). take i xs ++ r ∷ []) at in
    let old : spread xs ≡ spread (take i xs) ++ replicate run.1 core = ap spread split ∙ flat_map-append _ (take i xs) (run ∷ [])
    ∙ ap (λ (l : List ℕ). spread (take i xs) ++ l) (append-nil (replicate run.1 run.0) ∙ ap (λ (c : ℕ). replicate run.1 c) same) in
    let new : spread (set xs i (core, sum)) ≡ spread (take i xs) ++ replicate (run.1 + count) core = ap spread (last_set xs i run (core, sum) e) ∙ flat_map-append _ (take i xs) ((core, sum) ∷ [])
    ∙ ap (λ (l : List ℕ). spread (take i xs) ++ l) (append-nil (replicate sum core) ∙ ap (λ (n : ℕ). replicate n core) added) in
    new ∙ ap (λ (l : List ℕ). spread (take i xs) ++ l) (sym (replicate-append-replicate run.1 count core))
    ∙ sym (append_assoc (spread (take i xs)) (replicate run.1 core) (replicate count core)) ∙ ap (λ (l : List ℕ). l ++ replicate count core) (sym old)

-- a further run behind the last
pub apart_kept : (xs : List (ℕ × ℕ)) (i : ℕ) (run : ℕ × ℕ) (core count : ℕ) → length xs ≡ i + 1 → get_or xs i run ≡ run → (run.0 ≡ core → 2 ^ 64 ≤ run.1 + count)
    → 1 ≤ count → AreKept xs → AreKept (xs ++ (core, count) ∷ [])
apart_kept xs i run core count e at apart some kept =
    let split : xs ≡ take i xs ++ run ∷ [] = last_split xs i run e ∙ ap (λ (r : ℕ × ℕ). take i xs ++ r ∷ []) at in
    let before : AreKept (take i xs ++ run ∷ []) = subst AreKept split kept in
    let whole : xs ++ (core, count) ∷ [] ≡ take i xs ++ run ∷ (core, count) ∷ [] = ap (λ (l : List (ℕ × ℕ)). l ++ (core, count) ∷ []) split ∙ append_assoc (take i xs) (run ∷ []) ((core, count) ∷ []) in
    subst AreKept (sym whole) (kept_changed (take i xs) run run ((core, count) ∷ []) refl (omega arith) before (last_counts (take i xs) run before, apart, (some, tt, tt)))

-- a run before others, once its core is compared
joins : (core count : ℕ) (run : ℕ × ℕ) (runs : List (ℕ × ℕ)) → run.0 ≡ core → with_run core count (run ∷ runs) ≡ (core, count + run.1) ∷ runs
joins core count run runs e = rw (eq-eqb run.0 core e) refl

two_runs : (core m n : ℕ) (runs : List (ℕ × ℕ)) → with_run core m (with_run core n runs) ≡ with_run core (m + n) runs
two_runs core m n [] = joins core m (core, n) [] refl
two_runs core m n (run ∷ runs) = by_test (nat_eq run.0 core) refl
  where
    by_test : (b : Bool) → nat_eq run.0 core ≡ b
        → with_run core m (if b then (core, n + run.1) ∷ runs else (core, n) ∷ run ∷ runs) ≡ (if b then (core, m + n + run.1) ∷ runs else (core, m + n) ∷ run ∷ runs)
    by_test true e = joins core m (core, n + run.1) runs refl ∙ ap (λ (k : ℕ). (core, k) ∷ runs) (omega arith)
    by_test false e = joins core m (core, n) (run ∷ runs) refl

equal_ones : (core n : ℕ) (xs : List ℕ) → runs_of (replicate (suc n) core ++ xs) ≡ with_run core (suc n) (runs_of xs)
equal_ones core zero xs = refl
equal_ones core (suc n) xs =
    let more : 1 + suc n ≡ suc (suc n) = omega arith in
    ap (λ (l : List (ℕ × ℕ)). with_run core 1 l) (equal_ones core n xs) ∙ two_runs core 1 (suc n) (runs_of xs) ∙ ap (λ (k : ℕ). with_run core k (runs_of xs)) more

some_equal_ones : (core n : ℕ) (xs : List ℕ) → 1 ≤ n → runs_of (replicate n core ++ xs) ≡ with_run core n (runs_of xs)
some_equal_ones core zero xs h = absurd (omega arith)
some_equal_ones core (suc n) xs h = equal_ones core n xs

below_behind : (limit core n : ℕ) (runs : List (ℕ × ℕ)) → AreBelow limit (with_run core n runs) → AreBelow limit runs
below_behind limit core n [] h = tt
below_behind limit core n (run ∷ runs) h = by_test (nat_eq run.0 core) h
  where
    by_test : (b : Bool) → AreBelow limit (if b then (core, n + run.1) ∷ runs else (core, n) ∷ run ∷ runs) → AreBelow limit (run ∷ runs)
    by_test true h = (let first = h.0 in omega arith, h.1)
    by_test false h = h.1

-- runs that are kept, before which another of them stands
stays : (run : ℕ × ℕ) (runs : List (ℕ × ℕ)) → IsApart run runs → AreBelow (2 ^ 64) (with_run run.0 run.1 runs) → with_run run.0 run.1 runs ≡ run ∷ runs
stays run [] apart below = refl
stays run (next ∷ runs) apart below = by_test (nat_eq next.0 run.0) refl below
  where
    by_test : (b : Bool) → nat_eq next.0 run.0 ≡ b → AreBelow (2 ^ 64) (if b then (run.0, run.1 + next.1) ∷ runs else run ∷ next ∷ runs)
        → (if b then (run.0, run.1 + next.1) ∷ runs else run ∷ next ∷ runs) ≡ run ∷ next ∷ runs
    by_test true e below = let first = below.0 in let far = apart (sym (eqb-true next.0 run.0 e)) in absurd (omega arith)
    by_test false e below = refl

pub kept_are_longest : (runs : List (ℕ × ℕ)) → AreKept runs → AreBelow (2 ^ 64) (runs_of (spread runs)) → runs_of (spread runs) ≡ runs
kept_are_longest [] kept below = refl
kept_are_longest (run ∷ runs) kept below =
    let one : runs_of (spread (run ∷ runs)) ≡ with_run run.0 run.1 (runs_of (spread runs)) = some_equal_ones run.0 run.1 (spread runs) kept.0 in
    let short : AreBelow (2 ^ 64) (with_run run.0 run.1 (runs_of (spread runs))) = subst (AreBelow (2 ^ 64)) one below in
    let behind = kept_are_longest runs kept.2 (below_behind (2 ^ 64) run.0 run.1 (runs_of (spread runs)) short) in
    let put : with_run run.0 run.1 (runs_of (spread runs)) ≡ with_run run.0 run.1 runs = ap (λ (l : List (ℕ × ℕ)). with_run run.0 run.1 l) behind in
    one ∙ put ∙ stays run runs kept.1 (subst (AreBelow (2 ^ 64)) put short)

-- the longest runs of a list stand for it, and no other such runs do

spread_behind : (core n : ℕ) (runs : List (ℕ × ℕ)) → spread (with_run core n runs) ≡ replicate n core ++ spread runs
spread_behind core n [] = refl
spread_behind core n (run ∷ runs) = by_test (nat_eq run.0 core) refl
  where
    by_test : (b : Bool) → nat_eq run.0 core ≡ b → spread (if b then (core, n + run.1) ∷ runs else (core, n) ∷ run ∷ runs) ≡ replicate n core ++ (replicate run.1 run.0 ++ spread runs)
    by_test true e =
        ap (λ (l : List ℕ). l ++ spread runs) (sym (replicate-append-replicate n run.1 core)) ∙ append_assoc (replicate n core) (replicate run.1 core) (spread runs)
        ∙ ap (λ (c : ℕ). replicate n core ++ (replicate run.1 c ++ spread runs)) (sym (eqb-true run.0 core e))
    by_test false e = refl

pub runs_stand_for : (list : List ℕ) → spread (runs_of list) ≡ list
runs_stand_for [] = refl
runs_stand_for (core ∷ cores) = spread_behind core 1 (runs_of cores) ∙ ap (λ (l : List ℕ). core ∷ l) (runs_stand_for cores)

longest_behind : (core n : ℕ) (runs : List (ℕ × ℕ)) → 1 ≤ n → AreLongest runs → AreLongest (with_run core n runs)
longest_behind core n [] some longest = (some, tt, tt)
longest_behind core n (run ∷ runs) some longest = by_test (nat_eq run.0 core) refl
  where
    other : (rest : List (ℕ × ℕ)) → run.0 ≡ core → IsOther run.0 rest → IsOther core rest
    other [] e h = tt
    other (next ∷ rest) e h = λ k. h (e ∙ k)

    differ : nat_eq run.0 core ≡ false → core ≡ run.0 → ⊥
    differ e k = cc (eq-eqb run.0 core (sym k))

    by_test : (b : Bool) → nat_eq run.0 core ≡ b → AreLongest (if b then (core, n + run.1) ∷ runs else (core, n) ∷ run ∷ runs)
    by_test true e = (omega arith, other runs (eqb-true run.0 core e) longest.1, longest.2)
    by_test false e = (some, differ e, longest)

pub runs_are_longest : (list : List ℕ) → AreLongest (runs_of list)
runs_are_longest [] = tt
runs_are_longest (core ∷ cores) = longest_behind core 1 (runs_of cores) (omega arith) (runs_are_longest cores)

pub longest_are_runs : (runs : List (ℕ × ℕ)) → AreLongest runs → runs_of (spread runs) ≡ runs
longest_are_runs [] longest = refl
longest_are_runs (run ∷ runs) longest =
    some_equal_ones run.0 run.1 (spread runs) longest.0 ∙ ap (λ (l : List (ℕ × ℕ)). with_run run.0 run.1 l) (longest_are_runs runs longest.2) ∙ before runs longest.1
  where
    before : (rest : List (ℕ × ℕ)) → IsOther run.0 rest → with_run run.0 run.1 rest ≡ run ∷ rest
    before [] other = refl
    before (next ∷ rest) other = by_test (nat_eq next.0 run.0) refl
      where
        by_test : (b : Bool) → nat_eq next.0 run.0 ≡ b → (if b then (run.0, run.1 + next.1) ∷ rest else run ∷ next ∷ rest) ≡ run ∷ next ∷ rest
        by_test true e = absurd (other (sym (eqb-true next.0 run.0 e)))
        by_test false e = refl

-- no run is longer than the list
below_length : (limit : ℕ) (runs : List (ℕ × ℕ)) → length (spread runs) < limit → AreBelow limit runs
below_length limit [] less = tt
below_length limit (run ∷ runs) less =
    let both = length-append (replicate run.1 run.0) (spread runs) in
    let first = length-replicate run.1 run.0 in
    (omega (arith, both, first), below_length limit runs (omega (arith, both, first)))

pub short_lists : (list : List ℕ) → length list < 2 ^ 64 → HasShortRuns list
short_lists list less = below_length (2 ^ 64) (runs_of list) (omega (arith, ap (λ (l : List ℕ). length l) (runs_stand_for list)))
