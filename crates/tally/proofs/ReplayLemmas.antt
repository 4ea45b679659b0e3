-- What moves and looks show first is the table's first row, and nothing shows exactly where they are one history.
use Rattle.std.proofs.Common.{◌≡◌, ℕ, zero, suc, ◌≤◌, ◌<◌, ◌⊎◌, Bool, true, false, inl, inr, List, length, refl, ap, sym, ◌∙◌, subst, arith}
use Rattle.std.specs.Prelude.{cond, nat_lt, nat_le, slice_get, Option, Some, None}
use Rattle.std.specs.Option.{option_or}
use Rattle.std.proofs.lemmas.Bool.Decides.{nat_tests}
use Rattle.histbook.specs.declared.look_entry.LookEntry.{LookEntry}
use Rattle.histbook.specs.Budget.{EachBelow}
use Rattle.histbook.proofs.BudgetLemmas.{all_below}
use Rattle.tally.specs.declared.moves.Move.{Move}
use Rattle.tally.specs.declared.mismatch.Mismatch.{Mismatch}
use Rattle.tally.specs.Moves.{used_before, by_stamp}
use Rattle.tally.specs.Table.{other_found, first_look, too_late, row_at}
use Rattle.tally.specs.Replay.{IsFirstMismatch}
use Rattle.tally.specs.Walk.{used_behind, firsts, misplaced, overdrawn, WalkParts, no_walk, IsClear, HasMade, StopsAt, MadeAll, HasWalked, shown_by, earlier_of, IsLeastShown}
use Rattle.tally.proofs.SortLemmas.{ascends, sorted_length}
use Rattle.tally.proofs.PrefixLemmas.{AreClear, IsUsed, IsNext, used_at, used_zero, none_past, placed}
use Rattle.tally.proofs.TableLemmas.{looks_late, looks_between, looks_inside, row_past, row_overdrawn, row_misplaced, row_clear, row_inside}

pub below_at : (P : ℕ → Type 0) (n k : ℕ) → EachBelow P n → k < n → P k
below_at P zero k each less = absurd (omega arith)
below_at P (suc n) k each less = by_test (below_at P n k each.0) each.1 (nat_lt k n) refl
  where
    by_test : (k < n → P k) → P n → (b : Bool) → nat_lt k n ≡ b → P k
    by_test earlier last true e = earlier (grind (arith, nat_tests, e))
    by_test earlier last false e = let same : n ≡ k = grind (arith, nat_tests, e, less) in subst P same last

-- nothing was made at first
pub made_none : (limit : ℕ) (moves : List Move) → HasMade limit moves 0 (no_walk limit (length moves))
made_none limit moves = record { limit_is = refl; count_is = refl; place_is = refl; used_is = sym (used_zero moves); peak_is = refl; before_is = refl; clear = tt }

module _ (limit : ℕ) (moves : List Move) (looks : List LookEntry) where
  abbrev pub sorted : List Move
  sorted = by_stamp moves

  abbrev pub count : ℕ
  count = length (by_stamp moves)

  -- what a look shows, where the first n used numbers are there to compare with
  abbrev pub shown_to : ℕ → LookEntry → Option Mismatch
  shown_to n = shown_by (firsts (used_behind (by_stamp moves)) n) (length (by_stamp moves))

  few_more : (s : ℕ) → s ≤ count → s ≤ length moves
  few_more s l = omega (arith, l, sorted_length moves)

  placed_in : (s : ℕ) (a : Option Mismatch) → misplaced count s (slice_get sorted s) ≡ a → misplaced (length moves) s (slice_get sorted s) ≡ a
  placed_in s a e = ap (λ (n : ℕ). misplaced n s (slice_get (by_stamp moves) s)) (sym (sorted_length moves)) ∙ e

  pub next_of : (s : ℕ) → misplaced count s (slice_get sorted s) ≡ None → IsNext sorted s
  next_of s e m f = placed count s m (ap (λ (o : Option Move). misplaced (length (by_stamp moves)) s o) (sym f) ∙ e)

  drawn_in : (s : ℕ) (a : Option Mismatch) → IsUsed limit moves s → overdrawn limit (used_behind sorted s) s (slice_get sorted s) ≡ a → overdrawn limit (used_before moves s) s (slice_get sorted s) ≡ a
  drawn_in s a u e = ap (λ (n : ℕ). overdrawn limit n s (slice_get (by_stamp moves) s)) u.used ∙ e

  -- a row where moves show nothing is what looks show there
  agrees : (n s : ℕ) → s ≤ count → s < n → AreClear limit sorted (suc s) → row_at limit moves looks s ≡ first_look (shown_to n) s looks
  agrees n s l m clear =
      let here = clear s (omega arith) in
      let u = used_at limit moves s (ascends moves) (λ k less. clear k (omega arith)) (next_of s here.0) in
      row_inside limit moves looks s (few_more s l) ∙ row_clear limit (length moves) (used_before moves s) s (slice_get (by_stamp moves) s) looks (placed_in s None here.0) (drawn_in s None u here.1)
      ∙ ap (λ (x : ℕ). first_look (other_found x) s looks) u.used ∙ sym (looks_inside (used_behind (by_stamp moves)) n count s looks m)

  agrees_late : (n s : ℕ) → n ≤ s → count < s → row_at limit moves looks s ≡ first_look (shown_to n) s looks
  agrees_late n s l m =
      row_past limit moves looks s (omega (arith, m, sorted_length moves)) ∙ ap (λ (x : ℕ). first_look (too_late x) s looks) (sym (sorted_length moves))
      ∙ sym (looks_late (used_behind (by_stamp moves)) n count s looks l m)

  -- moves that all show nothing, at their places and behind them
  pub clear_all : EachBelow (IsClear limit sorted) count → (n : ℕ) → AreClear limit sorted n
  clear_all each n k l = by_test (nat_lt k count) refl
    where
      past : slice_get (by_stamp moves) k ≡ None → IsClear limit (by_stamp moves) k
      past e = (ap (λ (o : Option Move). misplaced (length (by_stamp moves)) k o) e, ap (λ (o : Option Move). overdrawn limit (used_behind (by_stamp moves) k) k o) e)

      by_test : (b : Bool) → nat_lt k count ≡ b → IsClear limit (by_stamp moves) k
      by_test true t = below_at (IsClear limit (by_stamp moves)) (length (by_stamp moves)) k each (grind (arith, nat_tests, t))
      by_test false t = past (none_past (by_stamp moves) k (grind (arith, nat_tests, t)))

  pub all_agree : EachBelow (IsClear limit sorted) count → (s : ℕ) → row_at limit moves looks s ≡ first_look (shown_to (suc count)) s looks
  all_agree each s = by_test (nat_lt count s) refl
    where
      by_test : (b : Bool) → nat_lt count s ≡ b → row_at limit moves looks s ≡ first_look (shown_to (suc count)) s looks
      by_test true t = let l : count < s = grind (arith, nat_tests, t) in agrees_late (suc count) s (omega (arith, l)) l
      by_test false t = let l : s ≤ count = grind (arith, nat_tests, t) in agrees (suc count) s l (omega (arith, l)) (clear_all each (suc s))

  -- where a move shows something, the row is what looks show there, and else that
  agrees_at : (s : ℕ) (d : Mismatch) (before : List ℕ) → StopsAt limit sorted before s d
      → (n : ℕ) × (before ≡ firsts (used_behind sorted) n) × ((k : ℕ) → k < s → row_at limit moves looks k ≡ first_look (shown_to n) k looks) × (row_at limit moves looks s ≡ option_or (first_look (shown_to n) s looks) (Some d))
  agrees_at s d before stops = by_case stops.shown
    where
      clear : AreClear limit (by_stamp moves) s
      clear k l = below_at (IsClear limit (by_stamp moves)) s k stops.clear l

      inside : s ≤ length (by_stamp moves)
      inside = omega (arith, stops.inside)

      earlier : (n : ℕ) → s ≤ n → (k : ℕ) → k < s → row_at limit moves looks k ≡ first_look (shown_to n) k looks
      earlier n le k l = agrees n k (omega (arith, l, stops.inside)) (omega (arith, l, le)) (λ j less. clear j (omega (arith, l, less)))

      by_case : ((before ≡ firsts (used_behind sorted) s) × (misplaced count s (slice_get sorted s) ≡ Some d))
          ⊎ ((before ≡ firsts (used_behind sorted) (suc s)) × (misplaced count s (slice_get sorted s) ≡ None) × (overdrawn limit (used_behind sorted s) s (slice_get sorted s) ≡ Some d))
          → (n : ℕ) × (before ≡ firsts (used_behind sorted) n) × ((k : ℕ) → k < s → row_at limit moves looks k ≡ first_look (shown_to n) k looks) × (row_at limit moves looks s ≡ option_or (first_look (shown_to n) s looks) (Some d))
      by_case (inl h) = (
        s,
        h.0,
        earlier s (omega arith),
        row_inside limit moves looks s (few_more s inside) ∙ row_misplaced limit (length moves) (used_before moves s) s (slice_get (by_stamp moves) s) looks d (placed_in s (Some d) h.1)
            ∙ ap (λ (o : Option Mismatch). option_or o (Some d)) (sym (looks_between (used_behind (by_stamp moves)) s count s looks (omega arith) inside)),
      )
      by_case (inr h) =
          let u = used_at limit moves s (ascends moves) clear (next_of s h.1) in (
            suc s,
            h.0,
            earlier (suc s) (omega arith),
            row_inside limit moves looks s (few_more s inside) ∙ row_overdrawn limit (length moves) (used_before moves s) s (slice_get (by_stamp moves) s) looks d (placed_in s None h.1) (drawn_in s (Some d) u h.2)
                ∙ ap (λ (x : ℕ). option_or (first_look (other_found x) s looks) (Some d)) u.used
                ∙ ap (λ (o : Option Mismatch). option_or o (Some d)) (sym (looks_inside (used_behind (by_stamp moves)) (suc s) count s looks (omega arith))),
          )

  -- the first of both is the table's
  abbrev pub row : ℕ → Option Mismatch
  row = row_at limit moves looks

  abbrev pub IsLeastRow : Option Mismatch → Type 0
  IsLeastRow None = (s : ℕ) → row_at limit moves looks s ≡ None
  IsLeastRow (Some m) = (row_at limit moves looks m.stamp ≡ Some m) × ((s : ℕ) → s < m.stamp → row_at limit moves looks s ≡ None)

  least_of : (h : LookEntry → Option Mismatch) → ((s : ℕ) → row s ≡ first_look h s looks) → (shown : Option Mismatch) → IsLeastShown h looks shown → IsLeastRow shown
  least_of h same None least = λ s. same s ∙ least s
  least_of h same (Some m) least = (same m.stamp ∙ least.0, λ s l. same s ∙ least.1 s l)

  least_with : (h : LookEntry → Option Mismatch) (d : Mismatch) → ((s : ℕ) → s < d.stamp → row s ≡ first_look h s looks) → row d.stamp ≡ option_or (first_look h d.stamp looks) (Some d)
      → (shown : Option Mismatch) → IsLeastShown h looks shown → IsLeastRow (earlier_of shown (Some d))
  least_with h d same at None least = (at ∙ ap (λ (o : Option Mismatch). option_or o (Some d)) (least d.stamp), λ s l. same s l ∙ least s)
  least_with h d same at (Some m) least = by_order (nat_le m.stamp d.stamp) refl
    where
      at_look : m.stamp ≤ d.stamp → (b : Bool) → nat_lt m.stamp d.stamp ≡ b → row_at limit moves looks m.stamp ≡ Some m
      at_look l true t = same m.stamp (grind (arith, nat_tests, t)) ∙ least.0
      at_look l false t =
          let e : d.stamp ≡ m.stamp = grind (arith, nat_tests, t, l) in
          sym (ap (λ (s : ℕ). row_at limit moves looks s) e) ∙ at ∙ ap (λ (s : ℕ). option_or (first_look h s looks) (Some d)) e ∙ ap (λ (o : Option Mismatch). option_or o (Some d)) least.0

      by_order : (b : Bool) → nat_le m.stamp d.stamp ≡ b → IsLeastRow (cond b (Some m) (Some d))
      by_order true t =
          let l : m.stamp ≤ d.stamp = grind (arith, nat_tests, t) in
          (at_look l (nat_lt m.stamp d.stamp) refl, λ s less. same s (omega (arith, l, less)) ∙ least.1 s less)
      by_order false t =
          let l : d.stamp < m.stamp = grind (arith, nat_tests, t) in
          (at ∙ ap (λ (o : Option Mismatch). option_or o (Some d)) (least.1 d.stamp l), λ s less. same s less ∙ least.1 s (omega (arith, l, less)))

  pub least_row : (w : WalkParts) (stopped shown : Option Mismatch) → HasWalked limit sorted stopped w → IsLeastShown (shown_by w.before count) looks shown → IsLeastRow (earlier_of shown stopped)
  least_row w None None walked least = least_of (shown_by w.before count) (λ s. all_agree walked.clear s ∙ ap (λ (b : List ℕ). first_look (shown_by b (length (by_stamp moves))) s looks) (sym walked.before_is)) None least
  least_row w None (Some m) walked least = least_of (shown_by w.before count) (λ s. all_agree walked.clear s ∙ ap (λ (b : List ℕ). first_look (shown_by b (length (by_stamp moves))) s looks) (sym walked.before_is)) (Some m) least
  least_row w (Some d) shown walked least =
      let at = agrees_at d.stamp d w.before walked in
      let before = sym at.1 in
      least_with (shown_by w.before count) d (λ s l. at.2 s l ∙ ap (λ (b : List ℕ). first_look (shown_by b (length (by_stamp moves))) s looks) before)
      (at.3 ∙ ap (λ (b : List ℕ). option_or (first_look (shown_by b (length (by_stamp moves))) d.stamp looks) (Some d)) before) shown least

  pub first_mismatch : (m : Mismatch) → IsLeastRow (Some m) → IsFirstMismatch limit moves looks m
  first_mismatch m least = (least.0, all_below (λ n. row_at limit moves looks n ≡ None) m.stamp least.1)

-- what a replay knows once moves were made again and looks compared
pub record Replayed (limit : ℕ) (moves : List Move) (looks : List LookEntry) (stopped shown : Option Mismatch) (w : WalkParts) : Type 0 where
  pub walked : HasWalked limit (by_stamp moves) stopped w
  pub least : IsLeastShown (shown_by w.before (length (by_stamp moves))) looks shown

pub replayed_is : (limit l number : ℕ) (moves sorted : List Move) (looks seen : List LookEntry) (stopped shown : Option Mismatch) (w : WalkParts) (before : List ℕ)
    → l ≡ limit → sorted ≡ by_stamp moves → seen ≡ looks → number ≡ length sorted → before ≡ w.before → HasWalked l sorted stopped w → IsLeastShown (shown_by before number) seen shown
    → Replayed limit moves looks stopped shown w
replayed_is limit l number moves sorted looks seen stopped shown w before e f s g h walked least =
    let there : HasWalked limit (by_stamp moves) stopped w = subst (λ (xs : List Move). HasWalked limit xs stopped w) f (subst (λ (n : ℕ). HasWalked n sorted stopped w) e walked) in
    let places : number ≡ length (by_stamp moves) = g ∙ ap (λ (xs : List Move). length xs) f in
    record {
      walked = there;
      least = subst (λ (n : ℕ). IsLeastShown (shown_by w.before n) looks shown) places (subst (λ (b : List ℕ). IsLeastShown (shown_by b number) looks shown) h (subst (λ (ls : List LookEntry). IsLeastShown (shown_by before number) ls shown) s least));
    }

pub made_first : (limit number : ℕ) (xs : List Move) (w : WalkParts) → number ≡ length xs → w ≡ no_walk limit number → HasMade w.limit xs 0 w
made_first limit number xs w e f = subst (λ (x : WalkParts). HasMade x.limit xs 0 x) (sym (f ∙ ap (no_walk limit) e)) (made_none limit xs)

-- a mismatch is the first one
pub told : (limit : ℕ) (moves : List Move) (looks : List LookEntry) (stopped shown : Option Mismatch) (w : WalkParts) (m : Mismatch)
    → Replayed limit moves looks stopped shown w → earlier_of shown stopped ≡ Some m → IsFirstMismatch limit moves looks m
told limit moves looks stopped shown w m r e =
    first_mismatch limit moves looks m (subst (λ (o : Option Mismatch). IsLeastRow limit moves looks o) e (least_row limit moves looks w stopped shown r.walked r.least))

not_stopped : (shown stopped : Option Mismatch) → earlier_of shown stopped ≡ None → stopped ≡ None
not_stopped None stopped e = e
not_stopped (Some m) None e = absurd (grind (arith, e))
not_stopped (Some m) (Some n) e = by_test (nat_le m.stamp n.stamp) e
  where
    by_test : (b : Bool) → cond b (Some m) (Some n) ≡ None → Some n ≡ None
    by_test true e = absurd (grind (arith, e))
    by_test false e = e

-- without one all moves were made, and no row holds
pub all_made : (limit : ℕ) (moves : List Move) (looks : List LookEntry) (stopped shown : Option Mismatch) (w : WalkParts)
    → Replayed limit moves looks stopped shown w → earlier_of shown stopped ≡ None → MadeAll limit (by_stamp moves) w × ((s : ℕ) → row_at limit moves looks s ≡ None)
all_made limit moves looks stopped shown w r e = (
  subst (λ (o : Option Mismatch). HasWalked limit (by_stamp moves) o w) (not_stopped shown stopped e) r.walked,
  subst (λ (o : Option Mismatch). IsLeastRow limit moves looks o) e (least_row limit moves looks w stopped shown r.walked r.least),
)
