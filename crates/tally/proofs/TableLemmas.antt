-- The rows of the table, by what moves and looks show.
use Rattle.std.proofs.Common.{◌≡◌, ◌≢◌, ℕ, zero, suc, ◌≤◌, ◌<◌, Bool, true, false, List, [], ◌∷◌, ◌++◌, length, refl, ap, ◌∙◌, arith}
use Rattle.std.specs.Prelude.{cond, ◌==◌, nat_lt, slice_get, slice_index, Option, Some, None}
use Rattle.std.specs.Option.{option_or}
use Rattle.std.proofs.lemmas.List.{get_or_append_left, get_or_push, length_push}
use Rattle.std.proofs.lemmas.Bool.Decides.{nat_tests}
use Rattle.histbook.specs.declared.look_entry.LookEntry.{LookEntry}
use Rattle.histbook.specs.Budget.{Each}
use Rattle.tally.specs.declared.moves.Move.{Move}
use Rattle.tally.specs.declared.moves.Move.TheVariants.{Grant, Free}
use Rattle.tally.specs.declared.mismatch.Mismatch.{Mismatch}
use Rattle.tally.specs.Moves.{used_before, by_stamp}
use Rattle.tally.specs.Table.{other_stamp, too_many, other_found, first_look, freed_too_much, passed_limit, row_of, too_late, row_at}
use Rattle.tally.specs.Walk.{firsts, misplaced, overdrawn, shown_by}
use Rattle.tally.proofs.ShownLemmas.{first_look_same, first_look_none}
use Rattle.tally.proofs.SortLemmas.{sorted_length}
use Rattle.tally.proofs.PrefixLemmas.{got_inside}

-- the first of several

module _ (p q l w : Option Mismatch) where
  pub rows_clear : option_or p q ≡ None → w ≡ None → option_or p (option_or q (option_or l w)) ≡ l
  rows_clear e f = by_case p q l w e f
    where
      by_case : (p q l w : Option Mismatch) → option_or p q ≡ None → w ≡ None → option_or p (option_or q (option_or l w)) ≡ l
      by_case (Some m) q l w e f = absurd (grind (arith, e))
      by_case None (Some m) l w e f = absurd (grind (arith, e))
      by_case None None (Some m) w e f = refl
      by_case None None None w e f = f

  pub rows_first : (d : Mismatch) → option_or p q ≡ Some d → option_or p (option_or q (option_or l w)) ≡ Some d
  rows_first d e = by_case p q e
    where
      by_case : (p q : Option Mismatch) → option_or p q ≡ Some d → option_or p (option_or q (option_or l w)) ≡ Some d
      by_case (Some m) q e = e
      by_case None (Some m) e = e
      by_case None None e = absurd (grind (arith, e))

  pub rows_last : (d : Mismatch) → option_or p q ≡ None → w ≡ Some d → option_or p (option_or q (option_or l w)) ≡ option_or l (Some d)
  rows_last d e f = by_case p q e
    where
      by_case : (p q : Option Mismatch) → option_or p q ≡ None → option_or p (option_or q (option_or l w)) ≡ option_or l (Some d)
      by_case (Some m) q e = absurd (grind (arith, e))
      by_case None (Some m) e = absurd (grind (arith, e))
      by_case None None e = ap (λ (o : Option Mismatch). option_or l o) f

module _ (limit count used s : ℕ) (move : Option Move) (looks : List LookEntry) where
  pub row_clear : misplaced count s move ≡ None → overdrawn limit used s move ≡ None → row_of limit count used s move looks ≡ first_look (other_found used) s looks
  row_clear e f = rows_clear (other_stamp s move) (too_many count s move) (first_look (other_found used) s looks) (overdrawn limit used s move) e f

  pub row_misplaced : (d : Mismatch) → misplaced count s move ≡ Some d → row_of limit count used s move looks ≡ Some d
  row_misplaced d e = rows_first (other_stamp s move) (too_many count s move) (first_look (other_found used) s looks) (overdrawn limit used s move) d e

  pub row_overdrawn : (d : Mismatch) → misplaced count s move ≡ None → overdrawn limit used s move ≡ Some d → row_of limit count used s move looks ≡ option_or (first_look (other_found used) s looks) (Some d)
  row_overdrawn d e f = rows_last (other_stamp s move) (too_many count s move) (first_look (other_found used) s looks) (overdrawn limit used s move) d e f

-- the numbers to compare with

pub firsts_length : (f : ℕ → ℕ) (n : ℕ) → length (firsts f n) ≡ n
firsts_length f zero = refl
firsts_length f (suc n) = omega (arith, length_push (firsts f n) (f n), firsts_length f n)

pub firsts_at : (f : ℕ → ℕ) (n k : ℕ) → k < n → slice_index (firsts f n) k ≡ f k
firsts_at f zero k l = absurd (omega arith)
firsts_at f (suc n) k l = by_test (nat_lt k n) refl (firsts_at f n k)
  where
    by_test : (b : Bool) → nat_lt k n ≡ b → (k < n → slice_index (firsts f n) k ≡ f k) → slice_index (firsts f n ++ f n ∷ []) k ≡ f k
    by_test true t h =
        let less : k < n = grind (arith, nat_tests, t) in
        get_or_append_left (firsts f n) (f n ∷ []) 0 k (omega (arith, less, firsts_length f n)) ∙ h less
    by_test false t h =
        let same : n ≡ k = grind (arith, nat_tests, t, l) in
        get_or_push (firsts f n) (f n) 0 k (firsts_length f n ∙ same) ∙ ap f same

-- what looks show at a stamp, by the place of that stamp

module _ (f : ℕ → ℕ) (n count s : ℕ) (looks : List LookEntry) where
  pub looks_inside : s < n → first_look (shown_by (firsts f n) count) s looks ≡ first_look (other_found (f s)) s looks
  looks_inside l = first_look_same (shown_by (firsts f n) count) (other_found (f s)) s looks same
    where
      same : (look : LookEntry) → look.look.stamp ≡ s → shown_by (firsts f n) count look ≡ other_found (f s) look
      same look e =
          let at : slice_index (firsts f n) look.look.stamp ≡ f s = ap (λ (k : ℕ). slice_index (firsts f n) k) e ∙ firsts_at f n s l in
          by_test (nat_lt look.look.stamp (length (firsts f n))) (grind (arith, nat_tests, e, l, firsts_length f n)) at
        where
          by_test : (b : Bool) → b ≡ true → slice_index (firsts f n) look.look.stamp ≡ f s
              → cond b (other_found (slice_index (firsts f n) look.look.stamp) look) (cond (nat_lt count look.look.stamp) (too_late count look) None) ≡ other_found (f s) look
          by_test true t at = ap (λ (u : ℕ). other_found u look) at
          by_test false t at = absurd (grind (arith, t))

  pub looks_between : n ≤ s → s ≤ count → first_look (shown_by (firsts f n) count) s looks ≡ None
  looks_between l m = first_look_none (shown_by (firsts f n) count) s looks (all looks)
    where
      by_tests : (look : LookEntry) (b c : Bool) → b ≡ false → c ≡ false → cond b (other_found (slice_index (firsts f n) look.look.stamp) look) (cond c (too_late count look) None) ≡ None
      by_tests look true c t u = absurd (grind (arith, t))
      by_tests look false true t u = absurd (grind (arith, u))
      by_tests look false false t u = refl

      all : (xs : List LookEntry) → Each (λ (look : LookEntry). look.look.stamp ≡ s → shown_by (firsts f n) count look ≡ None) xs
      all [] = tt
      all (x ∷ xs) =
          (λ e. by_tests x (nat_lt x.look.stamp (length (firsts f n))) (nat_lt count x.look.stamp) (grind (arith, nat_tests, e, l, firsts_length f n)) (grind (arith, nat_tests, e, m)), all xs)

  pub looks_late : n ≤ s → count < s → first_look (shown_by (firsts f n) count) s looks ≡ first_look (too_late count) s looks
  looks_late l m = first_look_same (shown_by (firsts f n) count) (too_late count) s looks same
    where
      by_tests : (look : LookEntry) (b c : Bool) → b ≡ false → c ≡ true → cond b (other_found (slice_index (firsts f n) look.look.stamp) look) (cond c (too_late count look) None) ≡ too_late count look
      by_tests look true c t u = absurd (grind (arith, t))
      by_tests look false true t u = refl
      by_tests look false false t u = absurd (grind (arith, u))

      same : (look : LookEntry) → look.look.stamp ≡ s → shown_by (firsts f n) count look ≡ too_late count look
      same look e = by_tests look (nat_lt look.look.stamp (length (firsts f n))) (nat_lt count look.look.stamp) (grind (arith, nat_tests, e, l, firsts_length f n)) (grind (arith, nat_tests, e, m))

-- a row by its stamp

module _ (limit : ℕ) (moves : List Move) (looks : List LookEntry) (s : ℕ) where
  pub row_inside : s ≤ length moves → row_at limit moves looks s ≡ row_of limit (length moves) (used_before moves s) s (slice_get (by_stamp moves) s) looks
  row_inside l = by_test (nat_lt (length moves) s) (grind (arith, nat_tests, l))
    where
      by_test : (b : Bool) → b ≡ false → cond b (first_look (too_late (length moves)) s looks) (row_of limit (length moves) (used_before moves s) s (slice_get (by_stamp moves) s) looks)
          ≡ row_of limit (length moves) (used_before moves s) s (slice_get (by_stamp moves) s) looks
      by_test true t = absurd (grind (arith, t))
      by_test false t = refl

  pub row_past : length moves < s → row_at limit moves looks s ≡ first_look (too_late (length moves)) s looks
  row_past l = by_test (nat_lt (length moves) s) (grind (arith, nat_tests, l))
    where
      by_test : (b : Bool) → b ≡ true → cond b (first_look (too_late (length moves)) s looks) (row_of limit (length moves) (used_before moves s) s (slice_get (by_stamp moves) s) looks)
          ≡ first_look (too_late (length moves)) s looks
      by_test true t = refl
      by_test false t = absurd (grind (arith, t))

-- what shows is two numbers that differ

look_differs : (P : Mismatch → Type 0) (h : LookEntry → Option Mismatch) (s : ℕ) (looks : List LookEntry) → ((look : LookEntry) (m : Mismatch) → look.look.stamp ≡ s → h look ≡ Some m → P m)
    → (m : Mismatch) → first_look h s looks ≡ Some m → P m
look_differs P h s [] f m e = absurd (grind (arith, e))
look_differs P h s (x ∷ xs) f m e = by_test (x.look.stamp == s) refl (h x) refl (look_differs P h s xs f m) e
  where
    by_test : (b : Bool) → (x.look.stamp == s) ≡ b → (o : Option Mismatch) → h x ≡ o → (first_look h s xs ≡ Some m → P m) → cond b (option_or o (first_look h s xs)) (first_look h s xs) ≡ Some m → P m
    by_test true t (Some n) g rest e = f x m (grind (arith, nat_tests, t)) (g ∙ e)
    by_test true t None g rest e = rest e
    by_test false t o g rest e = rest e

or_differs : (P : Mismatch → Type 0) (p q : Option Mismatch) → ((m : Mismatch) → p ≡ Some m → P m) → ((m : Mismatch) → q ≡ Some m → P m) → (m : Mismatch) → option_or p q ≡ Some m → P m
or_differs P (Some n) q f g m e = f m e
or_differs P None q f g m e = g m e

abbrev pub Differ : Mismatch → Type 0
Differ m = m.kept ≢ m.summed

other_stamp_differs : (s : ℕ) (move : Option Move) (m : Mismatch) → other_stamp s move ≡ Some m → Differ m
other_stamp_differs s None m e same = absurd (grind (arith, e))
other_stamp_differs s (Some move) m e same = absurd (grind (arith, nat_tests, e, same))

too_many_differs : (count s : ℕ) (move : Option Move) → ((x : Move) → move ≡ Some x → s < count) → (m : Mismatch) → too_many count s move ≡ Some m → Differ m
too_many_differs count s None inside m e same = absurd (grind (arith, e))
too_many_differs count s (Some move) inside m e same = let less = inside move refl in absurd (grind (arith, nat_tests, e, same, less))

freed_differs : (used s : ℕ) (move : Option Move) (m : Mismatch) → freed_too_much used s move ≡ Some m → Differ m
freed_differs used s None m e same = absurd (grind (arith, e))
freed_differs used s (Some (Grant stamp bytes)) m e same = absurd (grind (arith, e))
freed_differs used s (Some (Free stamp bytes)) m e same = absurd (grind (arith, nat_tests, e, same))

passed_differs : (limit used s : ℕ) (move : Option Move) (m : Mismatch) → passed_limit limit used s move ≡ Some m → Differ m
passed_differs limit used s None m e same = absurd (grind (arith, e))
passed_differs limit used s (Some (Grant stamp bytes)) m e same = absurd (grind (arith, nat_tests, e, same))
passed_differs limit used s (Some (Free stamp bytes)) m e same = absurd (grind (arith, e))

found_differs : (used : ℕ) (look : LookEntry) (m : Mismatch) → other_found used look ≡ Some m → Differ m
found_differs used look m e same = absurd (grind (arith, nat_tests, e, same))

late_differs : (count s : ℕ) (look : LookEntry) (m : Mismatch) → count < s → look.look.stamp ≡ s → too_late count look ≡ Some m → Differ m
late_differs count s look m l at e same = absurd (grind (arith, l, at, e, same))

pub row_differs : (limit : ℕ) (moves : List Move) (looks : List LookEntry) (s : ℕ) (m : Mismatch) → row_at limit moves looks s ≡ Some m → Differ m
row_differs limit moves looks s m e = by_test (nat_lt (length moves) s) refl e
  where
    used : ℕ
    used = used_before moves s

    move : Option Move
    move = slice_get (by_stamp moves) s

    by_test : (b : Bool) → nat_lt (length moves) s ≡ b → cond b (first_look (too_late (length moves)) s looks) (row_of limit (length moves) used s move looks) ≡ Some m → Differ m
    by_test true t e = look_differs Differ (too_late (length moves)) s looks (λ look n at f. late_differs (length moves) s look n (grind (arith, nat_tests, t)) at f) m e
    by_test false t e =
        or_differs Differ (other_stamp s move) _ (other_stamp_differs s move)
        (or_differs Differ (too_many (length moves) s move) _ (too_many_differs (length moves) s move (λ x f. omega (arith, got_inside (by_stamp moves) s x f, sorted_length moves)))
        (or_differs Differ (first_look (other_found used) s looks) _ (look_differs Differ (other_found used) s looks (λ look n at f. found_differs used look n f))
        (or_differs Differ (freed_too_much used s move) _ (freed_differs used s move) (passed_differs limit used s move)))) m e
