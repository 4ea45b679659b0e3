-- A budget's history is one to a replay: without what its asks found no sum changes, and what is used never falls below 0.
use Rattle.std.proofs.Common.{◌≡◌, ℕ, zero, suc, ◌+◌, ◌-◌, ◌≤◌, ◌<◌, ◌^◌, Bool, true, false, List, [], ◌∷◌, length, map, max, refl, ap, sym, ◌∙◌, subst, arith}
use Rattle.std.specs.Prelude.{⊤, nat_le, slice_get, Option, Some, None}
use Rattle.std.proofs.lemmas.List.{take_all}
use Rattle.std.proofs.lemmas.Bool.Decides.{nat_tests}
use Rattle.prio_budget.specs.declared.look.Look.{Look}
use Rattle.histbook.specs.declared.look_entry.LookEntry.{LookEntry}
use Rattle.histbook.specs.Budget.{BudgetMove, Grant as Granted, Release as Released, granted, freed, total, below, at_stamp, granted_below, freed_below, once_between, Each, IsTrueLook, IsFairMove, IsSettled, HasEachStampOnce, IsOneHistory}
use Rattle.histbook.specs.InTurn.{peak_below, peak}
use Rattle.histbook.proofs.BudgetLemmas.{each_of}
use Rattle.tally.specs.declared.moves.Move.{Move}
use Rattle.tally.specs.declared.moves.Move.TheVariants.{Grant, Free}
use Rattle.tally.specs.Moves.{in_history, history_of, by_stamp}
use Rattle.tally.specs.Replay.{IsOneReplay, NeverFallsBelowZero}
use Rattle.tally.specs.Laws.{move_of}
use Rattle.tally.proofs.SortLemmas.{each_sorted}
use Rattle.tally.proofs.PrefixLemmas.{each_got, some_inside, sorted_total}
use Rattle.tally.proofs.HistoryLemmas.{history_length, unique_all, sums, more}

-- what is used never falls below 0 where no grant found less, and all is given back

abbrev pub FoundSome : List Move → Move → Type 0
FoundSome moves (Grant stamp bytes) = freed_below stamp (history_of moves) ≤ granted_below stamp (history_of moves)
FoundSome moves (Free stamp bytes) = ⊤

module _ (moves : List Move) (once : HasEachStampOnce 0 (history_of moves)) (settled : IsSettled (history_of moves)) (found : Each (FoundSome moves) moves) where
  behind : (n : ℕ) → length (by_stamp moves) ≤ n → freed_below n (history_of moves) ≤ granted_below n (history_of moves)
  behind n l =
      let all = ap history_of (take_all n (by_stamp moves) l) in
      let frees : freed_below n (history_of moves) ≡ total freed (history_of moves) = sums moves once n freed ∙ ap (λ (h : List BudgetMove). total freed h) all ∙ sorted_total freed moves in
      let grants : granted_below n (history_of moves) ≡ total granted (history_of moves) = sums moves once n granted ∙ ap (λ (h : List BudgetMove). total granted h) all ∙ sorted_total granted moves in
      omega (arith, frees, grants, settled)

  down : (d n : ℕ) → n + d ≡ length (by_stamp moves) → freed_below n (history_of moves) ≤ granted_below n (history_of moves)
  down zero n e = behind n (omega (arith, e))
  down (suc d) n e = by_move (down d (suc n) (omega (arith, e))) (slice_get (by_stamp moves) n) refl
    where
      by_move : freed_below (suc n) (history_of moves) ≤ granted_below (suc n) (history_of moves) → (o : Option Move) → slice_get (by_stamp moves) n ≡ o → freed_below n (history_of moves) ≤ granted_below n (history_of moves)
      by_move next None f = absurd (some_inside (by_stamp moves) n (omega (arith, e)) f)
      by_move next (Some (Free stamp bytes)) f = omega (arith, next, more moves once n (Free stamp bytes) f freed, more moves once n (Free stamp bytes) f granted)
      by_move next (Some (Grant stamp bytes)) f =
          let here : stamp ≡ n = omega (arith, unique_all moves once n (Grant stamp bytes) f) in
          let some : freed_below stamp (history_of moves) ≤ granted_below stamp (history_of moves) = each_got (FoundSome moves) (by_stamp moves) n (Grant stamp bytes) (each_sorted (FoundSome moves) moves found) f in
          subst (λ (s : ℕ). freed_below s (history_of moves) ≤ granted_below s (history_of moves)) here some

  pub never_below : NeverFallsBelowZero moves
  never_below n = by_test (nat_le (length (by_stamp moves)) n) refl
    where
      by_test : (b : Bool) → nat_le (length (by_stamp moves)) n ≡ b → freed_below n (history_of moves) ≤ granted_below n (history_of moves)
      by_test true t = behind n (grind (arith, nat_tests, t))
      by_test false t = let l : n < length (by_stamp moves) = grind (arith, nat_tests, t) in down (length (by_stamp moves) - n) n (omega (arith, l))

-- sums that don't look at what was found

abbrev IsBlind : (BudgetMove → ℕ) → Type 0
IsBlind f = (m : BudgetMove) → f (in_history (move_of m)) ≡ f m

same_total : (f : BudgetMove → ℕ) → IsBlind f → (ms : List BudgetMove) → total f (history_of (map move_of ms)) ≡ total f ms
same_total f blind [] = refl
same_total f blind (m ∷ ms) = omega (arith, blind m, same_total f blind ms)

same_length : (ms : List BudgetMove) → length (history_of (map move_of ms)) ≡ length ms
same_length [] = refl
same_length (m ∷ ms) = ap suc (same_length ms)

at_blind : (n : ℕ) → IsBlind (at_stamp n)
at_blind n (Granted look bytes) = refl
at_blind n (Released free) = refl

granted_blind : IsBlind granted
granted_blind (Granted look bytes) = refl
granted_blind (Released free) = refl

freed_blind : IsBlind freed
freed_blind (Granted look bytes) = refl
freed_blind (Released free) = refl

grants_blind : (n : ℕ) → IsBlind (below granted n)
grants_blind n (Granted look bytes) = refl
grants_blind n (Released free) = refl

frees_blind : (n : ℕ) → IsBlind (below freed n)
frees_blind n (Granted look bytes) = refl
frees_blind n (Released free) = refl

grants_same : (ms : List BudgetMove) (n : ℕ) → granted_below n (history_of (map move_of ms)) ≡ granted_below n ms
grants_same ms n = same_total (below granted n) (grants_blind n) ms

frees_same : (ms : List BudgetMove) (n : ℕ) → freed_below n (history_of (map move_of ms)) ≡ freed_below n ms
frees_same ms n = same_total (below freed n) (frees_blind n) ms

peak_below_same : (ms : List BudgetMove) (n : ℕ) → peak_below (history_of (map move_of ms)) n ≡ peak_below ms n
peak_below_same ms zero = refl
peak_below_same ms (suc n) = let rest = peak_below_same ms n in λ i. max (grants_same ms (suc n) i - frees_same ms (suc n) i) (rest i)

pub peaks_same : (ms : List BudgetMove) → peak (history_of (map move_of ms)) ≡ peak ms
peaks_same ms = ap (λ (n : ℕ). peak_below (history_of (map move_of ms)) n) (same_length ms) ∙ peak_below_same ms (length ms)

-- one history

module _ (limit : ℕ) (ms : List BudgetMove) (looks : List LookEntry) (few : length ms < 2 ^ 32) (h : IsOneHistory limit 0 ms (map (λ look. look.look) looks)) where
  once_too : HasEachStampOnce 0 (history_of (map move_of ms))
  once_too n = same_total (at_stamp n) (at_blind n) ms ∙ h.once n ∙ ap (λ (k : ℕ). once_between 0 (0 + k) n) (sym (same_length ms))

  found_some : (xs : List BudgetMove) → Each (IsFairMove (λ n. granted_below n ms) (λ n. freed_below n ms) limit (0 + length ms)) xs → Each (FoundSome (map move_of ms)) (map move_of xs)
  found_some [] e = tt
  found_some (Granted look bytes ∷ xs) e = let fair = e.0 in (omega (arith, fair.1, grants_same ms look.stamp, frees_same ms look.stamp), found_some xs e.1)
  found_some (Released free ∷ xs) e = (tt, found_some xs e.1)

  true_too : (look : Look) → IsTrueLook (λ n. granted_below n ms) (λ n. freed_below n ms) (0 + length ms) look
      → IsTrueLook (λ n. granted_below n (history_of (map move_of ms))) (λ n. freed_below n (history_of (map move_of ms))) (0 + length (history_of (map move_of ms))) look
  true_too look t = (omega (arith, t.0, same_length ms), omega (arith, t.1, grants_same ms look.stamp, frees_same ms look.stamp))

  pub history_replayed : IsOneReplay limit (map move_of ms) looks
  history_replayed = record {
    few = omega (arith, few, same_length ms, history_length (map move_of ms));
    once = once_too;
    found = each_of _ _ true_too (map (λ look. look.look) looks) h.found;
    covered = never_below (map move_of ms) once_too (same_total freed freed_blind ms ∙ h.settled ∙ sym (same_total granted granted_blind ms)) (found_some ms h.fair);
    within = λ n. let w = h.within n in omega (arith, w, grants_same ms n, frees_same ms n);
  }
