-- Moves made again, one more at a time.
use Rattle.std.proofs.Common.{◌≡◌, ℕ, zero, suc, ◌<◌, true, false, inl, inr, List, [], ◌∷◌, ◌++◌, length, get_or, refl, ap, sym, ◌∙◌, subst, arith}
use Rattle.std.specs.Prelude.{max, slice_get, is_some, Option, Some, None}
use Rattle.tally.specs.declared.moves.Move.{Move}
use Rattle.tally.specs.declared.moves.Move.TheVariants.{Grant, Free}
use Rattle.tally.specs.declared.mismatch.Mismatch.{Mismatch}
use Rattle.tally.specs.Walk.{used_after, used_from, used_behind, firsts, misplaced, overdrawn, WalkParts, compared, IsStep, HasMade, StopsAt, MadeAll, HasWalked}

-- the move at a place
pub got : {A : Type 0} (xs : List A) (n : ℕ) (d : A) → n < length xs → slice_get xs n ≡ Some (get_or xs n d)
got [] n d l = absurd (omega arith)
got (x ∷ xs) zero d l = refl
got (x ∷ xs) (suc n) d l = got xs n d (omega arith)

some_is : {A : Type 0} (x y : A) → Some x ≡ Some y → x ≡ y
some_is x y e = grind (arith, e)

-- the used number with one move more
pub used_more : (used : ℕ) (moves : List Move) (n : ℕ) (move : Move) → slice_get moves n ≡ Some move → used_from used moves (suc n) ≡ used_after (used_from used moves n) move
used_more used [] n move e = absurd (grind (arith, e))
used_more used (next ∷ []) zero move e = ap (used_after used) (some_is _ _ e)
used_more used (next ∷ other ∷ moves) zero move e = ap (used_after used) (some_is _ _ e)
used_more used (next ∷ moves) (suc n) move e = used_more (used_after used next) moves n move e

-- what a move shows stands at its place
misplaced_at : (count s : ℕ) (move : Option Move) (m : Mismatch) → misplaced count s move ≡ Some m → m.stamp ≡ s
misplaced_at count s None m e = absurd (grind (arith, e))
misplaced_at count s (Some move) m e = grind (arith, e)

overdrawn_at : (limit used s : ℕ) (move : Option Move) (m : Mismatch) → overdrawn limit used s move ≡ Some m → m.stamp ≡ s
overdrawn_at limit used s None m e = absurd (grind (arith, e))
overdrawn_at limit used s (Some (Grant stamp bytes)) m e = grind (arith, e)
overdrawn_at limit used s (Some (Free stamp bytes)) m e = grind (arith, e)

module _ (limit : ℕ) (moves : List Move) (n : ℕ) (w : WalkParts) (move : Move) (h : HasMade limit moves n w) (got : slice_get moves n ≡ Some move) where
  place_same : misplaced w.count w.place (Some move) ≡ misplaced (length moves) n (slice_get moves n)
  place_same i = misplaced (h.count_is i) (h.place_is i) (sym got i)

  used_same : overdrawn w.limit w.used w.place (Some move) ≡ overdrawn limit (used_behind moves n) n (slice_get moves n)
  used_same i = overdrawn (h.limit_is i) (h.used_is i) (h.place_is i) (sym got i)

  used_next : used_after w.used move ≡ used_behind moves (suc n)
  used_next = ap (λ (u : ℕ). used_after u move) h.used_is ∙ sym (used_more 0 moves n move got)

  before_next : (compared w).before ≡ firsts (used_behind moves) (suc n)
  before_next i = h.before_is i ++ h.used_is i ∷ []

  pub step_on : (v : WalkParts) (o : Option Mismatch) → false ≡ is_some o → IsStep w move o v → HasMade limit moves (suc n) v
  step_on v None e s = subst (λ (x : WalkParts). HasMade limit moves (suc n) x) (sym s.2) (record {
    limit_is = h.limit_is;
    count_is = h.count_is;
    place_is = omega (arith, h.place_is);
    used_is = used_next;
    peak_is = λ i. max (used_next i) (h.peak_is i);
    before_is = before_next;
    clear = (h.clear, (sym place_same ∙ s.0, sym used_same ∙ s.1));
  })
  step_on v (Some m) e s = absurd (grind (arith, e))

  pub step_stop : (v : WalkParts) (o : Option Mismatch) → n < length moves → true ≡ is_some o → IsStep w move o v → HasWalked limit moves o v
  step_stop v None l e s = absurd (grind (arith, e))
  step_stop v (Some m) l e (inl s) =
      subst (λ (k : ℕ). StopsAt limit moves v.before k m) (sym (misplaced_at w.count w.place (Some move) m s.0 ∙ h.place_is))
      (record { inside = l; clear = h.clear; shown = inl (ap (λ (x : WalkParts). x.before) s.1 ∙ h.before_is, sym place_same ∙ s.0) })
  step_stop v (Some m) l e (inr s) =
      subst (λ (k : ℕ). StopsAt limit moves v.before k m) (sym (overdrawn_at w.limit w.used w.place (Some move) m s.1 ∙ h.place_is))
      (record { inside = l; clear = h.clear; shown = inr (ap (λ (x : WalkParts). x.before) s.2 ∙ before_next, sym place_same ∙ s.0, sym used_same ∙ s.1) })

pub made_all : (limit : ℕ) (moves : List Move) (n : ℕ) (w v : WalkParts) → n ≡ length moves → HasMade limit moves n w → v ≡ compared w → MadeAll limit moves v
made_all limit moves n w v e h c =
    let here : HasMade limit moves (length moves) w = subst (λ (k : ℕ). HasMade limit moves k w) e h in
    subst (λ (x : WalkParts). MadeAll limit moves x) (sym c) (record { place_is = here.place_is; peak_is = here.peak_is; before_is = λ i. here.before_is i ++ here.used_is i ∷ []; clear = here.clear })
