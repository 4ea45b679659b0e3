-- Nothing shows exactly where moves and looks are one history.
use Rattle.std.proofs.Common.{◌≡◌, ℕ, zero, suc, ◌+◌, ◌≤◌, ◌<◌, ◌^◌, Bool, true, false, List, [], ◌∷◌, length, take, map, max, refl, ap, sym, ◌∙◌, arith}
use Rattle.std.specs.Prelude.{cond, ◌==◌, nat_lt, nat_eq, slice_get, slice_index, Option, Some, None}
use Rattle.std.specs.Option.{option_or}
use Rattle.std.proofs.lemmas.Bool.Decides.{nat_tests}
use Rattle.prio_budget.specs.declared.look.Look.{Look}
use Rattle.histbook.specs.declared.look_entry.LookEntry.{LookEntry}
use Rattle.histbook.specs.Budget.{BudgetMove, granted, freed, total, below, at_stamp, granted_below, freed_below, once_between, Each, IsTrueLook, HasEachStampOnce}
use Rattle.histbook.specs.InTurn.{peak_below}
use Rattle.histbook.proofs.BudgetLemmas.{each_of}
use Rattle.tally.specs.declared.moves.Move.{Move}
use Rattle.tally.specs.declared.moves.Move.TheVariants.{Grant, Free}
use Rattle.tally.specs.declared.mismatch.Mismatch.{Mismatch}
use Rattle.tally.specs.declared.peak.Peak.{Peak}
use Rattle.tally.specs.Moves.{stamp_of, in_history, history_of, used_before, by_stamp}
use Rattle.tally.specs.Table.{last_stamp, other_stamp, too_many, other_found, first_look, freed_too_much, passed_limit, too_late, row_at}
use Rattle.tally.specs.Replay.{IsOneReplay, IsFirstMismatch, IsPeak}
use Rattle.tally.specs.Walk.{used_behind, firsts, highest, misplaced, WalkParts, IsClear, MadeAll, shown_by}
use Rattle.tally.proofs.ShownLemmas.{first_look_none}
use Rattle.tally.proofs.SortLemmas.{Ascends, ascends, sorted_length}
use Rattle.tally.proofs.PrefixLemmas.{IsUsed, stamp_in, used_at, sums_at, take_total, got_inside, some_inside, sorted_total, before_last}
use Rattle.tally.proofs.TableLemmas.{firsts_length, firsts_at, row_past, row_inside}
use Rattle.tally.proofs.ReplayLemmas.{clear_all, all_agree, next_of, below_at}

pub history_length : (xs : List Move) → length (history_of xs) ≡ length xs
history_length [] = refl
history_length (x ∷ xs) = ap suc (history_length xs)

-- each stamp once

abbrev pub one_if : Bool → ℕ
one_if b = cond b 1 0

at_is : (n s : ℕ) (m : Move) → stamp_of m ≡ s → at_stamp n (in_history m) ≡ one_if (nat_eq s n)
at_is n s m e = ap (λ (k : ℕ). one_if (nat_eq k n)) (stamp_in m ∙ e)

once_step : (b len n : ℕ) → one_if (nat_eq b n) + once_between (suc b) (suc b + len) n ≡ once_between b (b + suc len) n
once_step b len n = grind (arith, nat_tests)

once_none : (b n : ℕ) → once_between b (b + 0) n ≡ 0
once_none b n = grind (arith, nat_tests)

abbrev pub HasOnce : ℕ → List Move → Type 0
HasOnce b xs = (n : ℕ) → total (at_stamp n) (history_of xs) ≡ once_between b (b + length xs) n

pub once_from : (b : ℕ) (xs : List Move) → ((k : ℕ) (m : Move) → slice_get xs k ≡ Some m → stamp_of m ≡ b + k) → HasOnce b xs
once_from b [] placed n = sym (once_none b n)
once_from b (x ∷ xs) placed n =
    let here : stamp_of x ≡ b = omega (arith, placed 0 x refl) in
    let rest = once_from (suc b) xs (λ k m e. omega (arith, placed (suc k) m e)) n in
    omega (arith, at_is n b x here, rest, once_step b (length xs) n)

none_at : (b : ℕ) (xs : List Move) → Each (λ (m : Move). b < stamp_of m) xs → total (at_stamp b) (history_of xs) ≡ 0
none_at b [] h = refl
none_at b (x ∷ xs) h =
    let far = h.0 in
    let zero_here : one_if (nat_eq (stamp_of x) b) ≡ 0 = grind (arith, nat_tests, far) in
    omega (arith, at_is b (stamp_of x) x refl, zero_here, none_at b xs h.1)

later : (b : ℕ) (xs : List Move) → Each (λ (m : Move). b ≤ stamp_of m) xs → total (at_stamp b) (history_of xs) ≡ 0 → Each (λ (m : Move). suc b ≤ stamp_of m) xs
later b [] h e = tt
later b (x ∷ xs) h e =
    let low = h.0 in
    let none : one_if (nat_eq (stamp_of x) b) ≡ 0 = omega (arith, at_is b (stamp_of x) x refl, e) in
    (grind (arith, nat_tests, low, none), later b xs h.1 (omega (arith, e)))

once_here : (b len : ℕ) → once_between b (b + suc len) b ≡ 1
once_here b len = grind (arith, nat_tests)

pub unique : (b : ℕ) (xs : List Move) → Ascends xs → Each (λ (m : Move). b ≤ stamp_of m) xs → HasOnce b xs → (k : ℕ) (m : Move) → slice_get xs k ≡ Some m → stamp_of m ≡ b + k
unique b [] a low once k m e = absurd (grind (arith, e))
unique b (x ∷ xs) a low once k m e = by_first (nat_lt b (stamp_of x)) refl (unique (suc b) xs a.1) k e
  where
    by_first : (t : Bool) → nat_lt b (stamp_of x) ≡ t
        → (Each (λ (m : Move). suc b ≤ stamp_of m) xs → HasOnce (suc b) xs → (k : ℕ) (m : Move) → slice_get xs k ≡ Some m → stamp_of m ≡ suc b + k)
        → (k : ℕ) → slice_get (x ∷ xs) k ≡ Some m → stamp_of m ≡ b + k
    by_first true t rest k e =
        let far : b < stamp_of x = grind (arith, nat_tests, t) in
        let none = none_at b (x ∷ xs) (far, each_of (λ (y : Move). stamp_of x ≤ stamp_of y) (λ (y : Move). b < stamp_of y) (λ y h. omega (arith, far, h)) xs a.0) in
        absurd (omega (arith, none, once b, once_here b (length xs)))
    by_first false t rest k e =
        let least = low.0 in
        let here : stamp_of x ≡ b = grind (arith, nat_tests, t, least) in
        let behind : HasOnce (suc b) xs = λ n. omega (arith, once n, at_is n b x here, once_step b (length xs) n) in
        let none : total (at_stamp b) (history_of xs) ≡ 0 = omega (arith, once b, once_here b (length xs), at_is b b x here, eq_one b) in
        by_place (rest (later b xs low.1 none) behind) here k e
      where
        eq_one : (b : ℕ) → one_if (nat_eq b b) ≡ 1
        eq_one b = grind (arith, nat_tests)

        by_place : ((k : ℕ) (m : Move) → slice_get xs k ≡ Some m → stamp_of m ≡ suc b + k) → stamp_of x ≡ b → (k : ℕ) → slice_get (x ∷ xs) k ≡ Some m → stamp_of m ≡ b + k
        by_place f here zero e = let same : Some (stamp_of x) ≡ Some (stamp_of m) = ap (λ (o : Option Move). option_stamp o) e in grind (arith, same, here)
          where
            option_stamp : Option Move → Option ℕ
            option_stamp None = None
            option_stamp (Some y) = Some (stamp_of y)
        by_place f here (suc k) e = omega (arith, f k m e)

-- looks that show nothing

each_none : (h : LookEntry → Option Mismatch) (xs : List LookEntry) → ((s : ℕ) → first_look h s xs ≡ None) → Each (λ (look : LookEntry). h look ≡ None) xs
each_none h [] none = tt
each_none h (x ∷ xs) none = (first (x.look.stamp == x.look.stamp) (same x.look.stamp) (h x) refl (none x.look.stamp), each_none h xs (λ s. rest s (x.look.stamp == s) (h x) (none s)))
  where
    same : (s : ℕ) → (s == s) ≡ true
    same s = grind (arith, nat_tests)

    first : (b : Bool) → b ≡ true → (o : Option Mismatch) → h x ≡ o → cond b (option_or o (first_look h x.look.stamp xs)) (first_look h x.look.stamp xs) ≡ None → h x ≡ None
    first true t (Some m) e f = absurd (grind (arith, f))
    first true t None e f = e
    first false t o e f = absurd (grind (arith, t))

    rest : (s : ℕ) (b : Bool) (o : Option Mismatch) → cond b (option_or o (first_look h s xs)) (first_look h s xs) ≡ None → first_look h s xs ≡ None
    rest s true (Some m) e = absurd (grind (arith, e))
    rest s true None e = e
    rest s false o e = e

look_true : (f : ℕ → ℕ) (count : ℕ) (look : LookEntry) → shown_by (firsts f (suc count)) count look ≡ None → (look.look.stamp ≤ count) × (look.look.found ≡ f look.look.stamp)
look_true f count look e = by_tests (nat_lt look.look.stamp (length (firsts f (suc count)))) refl (nat_lt count look.look.stamp) refl e
  where
    found : (u : ℕ) → other_found u look ≡ None → look.look.found ≡ u
    found u e = grind (arith, nat_tests, e)

    by_tests : (b : Bool) → nat_lt look.look.stamp (length (firsts f (suc count))) ≡ b → (c : Bool) → nat_lt count look.look.stamp ≡ c
        → cond b (other_found (slice_index (firsts f (suc count)) look.look.stamp) look) (cond c (too_late count look) None) ≡ None → (look.look.stamp ≤ count) × (look.look.found ≡ f look.look.stamp)
    by_tests true t c u e =
        let less : look.look.stamp < suc count = grind (arith, nat_tests, t, firsts_length f (suc count)) in
        (omega (arith, less), found (slice_index (firsts f (suc count)) look.look.stamp) e ∙ firsts_at f (suc count) look.look.stamp less)
    by_tests false t true u e = absurd (grind (arith, e))
    by_tests false t false u e = absurd (grind (arith, nat_tests, t, u, firsts_length f (suc count)))

map_each : (P : Look → Type 0) (xs : List LookEntry) → Each (λ (look : LookEntry). P look.look) xs → Each P (map (λ look. look.look) xs)
map_each P [] h = tt
map_each P (x ∷ xs) h = (h.0, map_each P xs h.1)

each_map : (P : Look → Type 0) (xs : List LookEntry) → Each P (map (λ look. look.look) xs) → Each (λ (look : LookEntry). P look.look) xs
each_map P [] h = tt
each_map P (x ∷ xs) h = (h.0, each_map P xs h.1)

peak_same : (moves : List Move) (n : ℕ) → ((k : ℕ) → used_before moves k ≡ used_behind (by_stamp moves) k) → peak_below (history_of moves) n ≡ highest (used_behind (by_stamp moves)) n
peak_same moves zero same = refl
peak_same moves (suc n) same = let more = peak_same moves n same in λ i. max (same (suc n) i) (more i)

-- moves whose stamps are the numbers from 0 on, each once

module _ (moves : List Move) (once : HasEachStampOnce 0 (history_of moves)) where
  pub unique_all : (k : ℕ) (m : Move) → slice_get (by_stamp moves) k ≡ Some m → stamp_of m ≡ 0 + k
  unique_all = unique 0 (by_stamp moves) (ascends moves) (lows (by_stamp moves)) (λ n. sorted_total (at_stamp n) moves ∙ once n ∙ ap (λ (k : ℕ). once_between 0 (0 + k) n) (history_length moves ∙ sym (sorted_length moves)))
    where
      lows : (xs : List Move) → Each (λ (m : Move). 0 ≤ stamp_of m) xs
      lows [] = tt
      lows (x ∷ xs) = (omega arith, lows xs)

  pub sums : (n : ℕ) (weight : BudgetMove → ℕ) → total (below weight n) (history_of moves) ≡ total weight (history_of (take n (by_stamp moves)))
  sums n weight = sums_at moves n (ascends moves) (λ k m l e. let at = unique_all k m e in omega (arith, at)) (λ m e. let at = unique_all n m e in omega (arith, at)) weight

  pub more : (s : ℕ) (m : Move) → slice_get (by_stamp moves) s ≡ Some m → (weight : BudgetMove → ℕ) → total (below weight (suc s)) (history_of moves) ≡ total (below weight s) (history_of moves) + weight (in_history m)
  more s m e weight = omega (arith, sums (suc s) weight, sums s weight, take_total weight (by_stamp moves) s m e)

module _ (limit : ℕ) (moves : List Move) (looks : List LookEntry) where
  -- moves that were all made

  module _ (w : WalkParts) (all : MadeAll limit (by_stamp moves) w) where
    used_all : (s : ℕ) → IsUsed limit moves s
    used_all s =
        let clear = clear_all limit moves looks all.clear (suc s) in
        used_at limit moves s (ascends moves) (λ k l. clear k (omega (arith, l))) (next_of limit moves looks s (clear s (omega arith)).0)

    place_all : (k : ℕ) (m : Move) → slice_get (by_stamp moves) k ≡ Some m → stamp_of m ≡ 0 + k
    place_all k m e =
        let clear = clear_all limit moves looks all.clear (suc k) in
        let here : stamp_of m ≡ k = next_of limit moves looks k (clear k (omega arith)).0 m e in
        omega (arith, here)

    pub peak_all : (p : Peak) → p.stamps ≡ w.place → p.peak ≡ w.peak → IsPeak moves p
    peak_all p e f = (
      e ∙ all.place_is ∙ sorted_length moves,
      f ∙ all.peak_is ∙ ap (λ (n : ℕ). highest (used_behind (by_stamp moves)) n) (sorted_length moves ∙ sym (history_length moves)) ∙ sym (peak_same moves (length (history_of moves)) (λ k. (used_all k).used)),
    )

    few_all : length moves < 2 ^ 32
    few_all = by_test (nat_lt last_stamp (length (by_stamp moves))) refl
      where
        missing : (o : Option Move) → slice_get (by_stamp moves) last_stamp ≡ o → misplaced (length (by_stamp moves)) last_stamp o ≡ None → last_stamp < length (by_stamp moves) → ⊥
        missing (Some m) e f l = before_last (length (by_stamp moves)) last_stamp m f refl
        missing None e f l = some_inside (by_stamp moves) last_stamp l e

        by_test : (b : Bool) → nat_lt last_stamp (length (by_stamp moves)) ≡ b → length moves < 2 ^ 32
        by_test true t =
            absurd (missing (slice_get (by_stamp moves) last_stamp) refl (below_at (IsClear limit (by_stamp moves)) (length (by_stamp moves)) last_stamp all.clear (grind (arith, nat_tests, t))).0 (grind (arith, nat_tests, t)))
        by_test false t = let l : length (by_stamp moves) ≤ last_stamp = grind (arith, nat_tests, t) in omega (arith, l, sorted_length moves)

    once_all : HasEachStampOnce 0 (history_of moves)
    once_all n = sym (sorted_total (at_stamp n) moves) ∙ once_from 0 (by_stamp moves) place_all n ∙ ap (λ (k : ℕ). once_between 0 (0 + k) n) (sorted_length moves ∙ sym (history_length moves))

    pub replayed : ((s : ℕ) → row_at limit moves looks s ≡ None) → IsOneReplay limit moves looks
    replayed none = record {
      few = few_all;
      once = once_all;
      found = map_each _ looks (each_of (λ (look : LookEntry). shown_by (firsts (used_behind (by_stamp moves)) (suc (length (by_stamp moves)))) (length (by_stamp moves)) look ≡ None) (λ (look : LookEntry). IsTrueLook (λ n. granted_below n (history_of moves)) (λ n. freed_below n (history_of moves)) (0 + length (history_of moves)) look.look) true_look looks (each_none _ looks (λ s. sym (all_agree limit moves looks all.clear s) ∙ none s)));
      covered = λ n. let u = used_all n in omega (arith, u.sum);
      within = λ n. let u = used_all n in omega (arith, u.sum, u.within);
    }
      where
        true_look : (look : LookEntry) → shown_by (firsts (used_behind (by_stamp moves)) (suc (length (by_stamp moves)))) (length (by_stamp moves)) look ≡ None
            → IsTrueLook (λ n. granted_below n (history_of moves)) (λ n. freed_below n (history_of moves)) (0 + length (history_of moves)) look.look
        true_look look e =
            let h = look_true (used_behind (by_stamp moves)) (length (by_stamp moves)) look e in
            let u = used_all look.look.stamp in
            (omega (arith, h.0, sorted_length moves, history_length moves), omega (arith, h.1, u.sum))

  -- one history

  module _ (h : IsOneReplay limit moves looks) where
    unique_here : (k : ℕ) (m : Move) → slice_get (by_stamp moves) k ≡ Some m → stamp_of m ≡ 0 + k
    unique_here = unique_all moves h.once

    more_here : (s : ℕ) (m : Move) → slice_get (by_stamp moves) s ≡ Some m → (weight : BudgetMove → ℕ) → total (below weight (suc s)) (history_of moves) ≡ total (below weight s) (history_of moves) + weight (in_history m)
    more_here = more moves h.once

    look_shows_nothing : (s : ℕ) (look : LookEntry) → IsTrueLook (λ n. granted_below n (history_of moves)) (λ n. freed_below n (history_of moves)) (0 + length (history_of moves)) look.look
        → look.look.stamp ≡ s → other_found (used_before moves s) look ≡ None
    look_shows_nothing s look t e =
        let used : look.look.found ≡ used_before moves look.look.stamp = omega (arith, t.1) in
        let same : look.look.found ≡ used_before moves s = used ∙ ap (used_before moves) e in
        grind (arith, nat_tests, same)

    looks_show_nothing : (s : ℕ) → first_look (other_found (used_before moves s)) s looks ≡ None
    looks_show_nothing s =
        first_look_none (other_found (used_before moves s)) s looks
        (each_of (λ (look : LookEntry). IsTrueLook (λ n. granted_below n (history_of moves)) (λ n. freed_below n (history_of moves)) (0 + length (history_of moves)) look.look) (λ (look : LookEntry). look.look.stamp ≡ s → other_found (used_before moves s) look ≡ None) (look_shows_nothing s) looks (each_map _ looks h.found))

    no_look_late : (s : ℕ) → length moves < s → first_look (too_late (length moves)) s looks ≡ None
    no_look_late s l =
        first_look_none (too_late (length moves)) s looks
        (each_of (λ (look : LookEntry). IsTrueLook (λ n. granted_below n (history_of moves)) (λ n. freed_below n (history_of moves)) (0 + length (history_of moves)) look.look) (λ (look : LookEntry). look.look.stamp ≡ s → too_late (length moves) look ≡ None) (λ look t e. absurd (omega (arith, t.0, e, l, history_length moves))) looks (each_map _ looks h.found))

    other_stamp_none : (s : ℕ) (o : Option Move) → slice_get (by_stamp moves) s ≡ o → other_stamp s o ≡ None
    other_stamp_none s None e = refl
    other_stamp_none s (Some m) e = let at = unique_here s m e in let same : stamp_of m ≡ s = omega (arith, at) in grind (arith, nat_tests, same)

    too_many_none : (s : ℕ) (o : Option Move) → slice_get (by_stamp moves) s ≡ o → too_many (length moves) s o ≡ None
    too_many_none s None e = refl
    too_many_none s (Some m) e =
        let inside = got_inside (by_stamp moves) s m e in
        let less : s < last_stamp = omega (arith, inside, sorted_length moves, h.few) in
        grind (arith, nat_tests, less)

    freed_none : (s : ℕ) (o : Option Move) → slice_get (by_stamp moves) s ≡ o → freed_too_much (used_before moves s) s o ≡ None
    freed_none s None e = refl
    freed_none s (Some (Grant stamp bytes)) e = refl
    freed_none s (Some (Free stamp bytes)) e =
        let room : bytes ≤ used_before moves s = omega (arith, more_here s (Free stamp bytes) e granted, more_here s (Free stamp bytes) e freed, h.covered (suc s)) in
        grind (arith, nat_tests, room)

    passed_none : (s : ℕ) (o : Option Move) → slice_get (by_stamp moves) s ≡ o → passed_limit limit (used_before moves s) s o ≡ None
    passed_none s None e = refl
    passed_none s (Some (Free stamp bytes)) e = refl
    passed_none s (Some (Grant stamp bytes)) e =
        let room : used_before moves s + bytes ≤ limit = omega (arith, more_here s (Grant stamp bytes) e granted, more_here s (Grant stamp bytes) e freed, h.covered s, h.within (suc s)) in
        grind (arith, nat_tests, room)

    pub no_row : (s : ℕ) → row_at limit moves looks s ≡ None
    no_row s = by_test (nat_lt (length moves) s) refl
      where
        five : s ≤ length moves → row_at limit moves looks s ≡ None
        five l = row_inside limit moves looks s l ∙ (λ i. option_or (other_stamp_none s (slice_get (by_stamp moves) s) refl i) (option_or (too_many_none s (slice_get (by_stamp moves) s) refl i) (option_or (looks_show_nothing s i)
            (option_or (freed_none s (slice_get (by_stamp moves) s) refl i) (passed_none s (slice_get (by_stamp moves) s) refl i)))))

        by_test : (b : Bool) → nat_lt (length moves) s ≡ b → row_at limit moves looks s ≡ None
        by_test true t = let l : length moves < s = grind (arith, nat_tests, t) in row_past limit moves looks s l ∙ no_look_late s l
        by_test false t = five (grind (arith, nat_tests, t))

  pub refuses : (m : Mismatch) → IsFirstMismatch limit moves looks m → IsOneReplay limit moves looks → ⊥
  refuses m first h = let none = sym first.0 ∙ no_row h m.stamp in absurd (grind (arith, none))
