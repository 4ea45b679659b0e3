-- What looks show first, one look more at a time.
use Rattle.std.proofs.Common.{◌≡◌, ℕ, ◌≤◌, ◌<◌, Bool, true, false, ◌+◌, List, [], ◌∷◌, ◌++◌, length, take, get_or, refl, sym, ◌∙◌, subst, arith}
use Rattle.std.specs.Prelude.{cond, ◌==◌, nat_le, Option, Some, None}
use Rattle.std.specs.Option.{option_or}
use Rattle.std.proofs.lemmas.List.{take_more, take_all}
use Rattle.std.proofs.lemmas.Bool.Decides.{nat_tests}
use Rattle.histbook.specs.Budget.{Each}
use Rattle.histbook.specs.declared.look_entry.LookEntry.{LookEntry}
use Rattle.tally.specs.declared.mismatch.Mismatch.{Mismatch}
use Rattle.tally.specs.Table.{first_look}
use Rattle.tally.specs.Walk.{shown_by, earlier_of, IsLeastShown}

-- what is shown stands at the look's stamp
abbrev pub AtItsStamp : (LookEntry → Option Mismatch) → Type 0
AtItsStamp shown = (look : LookEntry) (m : Mismatch) → shown look ≡ Some m → m.stamp ≡ look.look.stamp

module _ (shown : LookEntry → Option Mismatch) where
  first_look_more : (s : ℕ) (xs ys : List LookEntry) → first_look shown s (xs ++ ys) ≡ option_or (first_look shown s xs) (first_look shown s ys)
  first_look_more s [] ys = refl
  first_look_more s (x ∷ xs) ys = by_test (x.look.stamp == s) (shown x) (first_look_more s xs ys)
    where
      by_test : (b : Bool) (a : Option Mismatch) → first_look shown s (xs ++ ys) ≡ option_or (first_look shown s xs) (first_look shown s ys)
          → cond b (option_or a (first_look shown s (xs ++ ys))) (first_look shown s (xs ++ ys)) ≡ option_or (cond b (option_or a (first_look shown s xs)) (first_look shown s xs)) (first_look shown s ys)
      by_test true (Some m) e = refl
      by_test true None e = e
      by_test false a e = e

  one_none : (s : ℕ) (look : LookEntry) → shown look ≡ None → first_look shown s (look ∷ []) ≡ None
  one_none s look e = by_test (look.look.stamp == s) (shown look) e
    where
      by_test : (b : Bool) (a : Option Mismatch) → a ≡ None → cond b (option_or a None) None ≡ None
      by_test true None e = refl
      by_test true (Some m) e = absurd (grind (arith, e))
      by_test false a e = refl

  one_here : (s : ℕ) (look : LookEntry) (m : Mismatch) → shown look ≡ Some m → s ≡ look.look.stamp → first_look shown s (look ∷ []) ≡ Some m
  one_here s look m e same = by_test (look.look.stamp == s) (grind (arith, nat_tests, same)) (shown look) e
    where
      by_test : (b : Bool) → b ≡ true → (a : Option Mismatch) → a ≡ Some m → cond b (option_or a None) None ≡ Some m
      by_test true t (Some n) e = e
      by_test true t None e = absurd (grind (arith, e))
      by_test false t a e = absurd (grind (arith, t))

  one_other : (s : ℕ) (look : LookEntry) → s < look.look.stamp → first_look shown s (look ∷ []) ≡ None
  one_other s look less = by_test (look.look.stamp == s) (grind (arith, nat_tests, less))
    where
      by_test : (b : Bool) → b ≡ false → cond b (option_or (shown look) None) None ≡ None
      by_test true t = absurd (grind (arith, t))
      by_test false t = refl

  both : (xs ys : List LookEntry) (s : ℕ) (a b : Option Mismatch) → first_look shown s xs ≡ a → first_look shown s ys ≡ b → first_look shown s (xs ++ ys) ≡ option_or a b
  both xs ys s a b e f = first_look_more s xs ys ∙ (λ i. option_or (e i) (f i))

  pub least_more : AtItsStamp shown → (xs : List LookEntry) (look : LookEntry) (first : Option Mismatch) → IsLeastShown shown xs first → IsLeastShown shown (xs ++ look ∷ []) (earlier_of first (shown look))
  least_more stands xs look first least = by_next (shown look) refl first least
    where
      by_order : (m n : Mismatch) → shown look ≡ Some n → IsLeastShown shown xs (Some m) → (b : Bool) → nat_le m.stamp n.stamp ≡ b → IsLeastShown shown (xs ++ look ∷ []) (cond b (Some m) (Some n))
      by_order m n e least true t =
          let here = stands look n e in
          let low : m.stamp ≤ n.stamp = grind (arith, nat_tests, t) in (
            both xs (look ∷ []) m.stamp (Some m) _ least.0 refl,
            λ s l. let far : s < look.look.stamp = omega (arith, here, low, l) in both xs (look ∷ []) s None None (least.1 s l) (one_other s look far),
          )
      by_order m n e least false t =
          let here = stands look n e in
          let low : n.stamp < m.stamp = grind (arith, nat_tests, t) in (
            both xs (look ∷ []) n.stamp None (Some n) (least.1 n.stamp low) (one_here n.stamp look n e here),
            λ s l. let far : s < look.look.stamp = omega (arith, here, l) in both xs (look ∷ []) s None None (least.1 s (omega (arith, l, low))) (one_other s look far),
          )

      by_next : (next : Option Mismatch) → shown look ≡ next → (first : Option Mismatch) → IsLeastShown shown xs first → IsLeastShown shown (xs ++ look ∷ []) (earlier_of first next)
      by_next None e None least = λ s. both xs (look ∷ []) s None None (least s) (one_none s look e)
      by_next (Some n) e None least =
          let here = stands look n e in (
            both xs (look ∷ []) n.stamp None (Some n) (least n.stamp) (one_here n.stamp look n e here),
            λ s l. let far : s < look.look.stamp = omega (arith, here, l) in both xs (look ∷ []) s None None (least s) (one_other s look far),
          )
      by_next None e (Some m) least = (
        both xs (look ∷ []) m.stamp (Some m) _ least.0 refl,
        λ s l. both xs (look ∷ []) s None None (least.1 s l) (one_none s look e),
      )
      by_next (Some n) e (Some m) least = by_order m n e least (nat_le m.stamp n.stamp) refl

pub shown_stands : (before : List ℕ) (count : ℕ) → AtItsStamp (shown_by before count)
shown_stands before count look m e = grind (arith, e)

-- the same is shown first where the same is shown at that stamp
pub first_look_same : (f g : LookEntry → Option Mismatch) (s : ℕ) (looks : List LookEntry) → ((look : LookEntry) → look.look.stamp ≡ s → f look ≡ g look) → first_look f s looks ≡ first_look g s looks
first_look_same f g s [] same = refl
first_look_same f g s (x ∷ xs) same = by_test (x.look.stamp == s) (λ t. same x (grind (arith, nat_tests, t))) (first_look_same f g s xs same)
  where
    by_test : (b : Bool) → (b ≡ true → f x ≡ g x) → first_look f s xs ≡ first_look g s xs → cond b (option_or (f x) (first_look f s xs)) (first_look f s xs) ≡ cond b (option_or (g x) (first_look g s xs)) (first_look g s xs)
    by_test true h e = λ i. option_or (h refl i) (e i)
    by_test false h e = e

-- nothing is shown at a stamp where no look shows anything
pub first_look_none : (f : LookEntry → Option Mismatch) (s : ℕ) (looks : List LookEntry) → Each (λ (look : LookEntry). look.look.stamp ≡ s → f look ≡ None) looks → first_look f s looks ≡ None
first_look_none f s [] none = refl
first_look_none f s (x ∷ xs) none = by_test (x.look.stamp == s) (λ t. none.0 (grind (arith, nat_tests, t))) (first_look_none f s xs none.1)
  where
    by_test : (b : Bool) → (b ≡ true → f x ≡ None) → first_look f s xs ≡ None → cond b (option_or (f x) (first_look f s xs)) (first_look f s xs) ≡ None
    by_test true h e = λ i. option_or (h refl i) (e i)
    by_test false h e = e

module _ (shown : LookEntry → Option Mismatch) (looks : List LookEntry) where
  -- with the next look
  pub least_step : AtItsStamp shown → (i : ℕ) (d : LookEntry) (first r : Option Mismatch) → i < length looks → r ≡ earlier_of first (shown (get_or looks i d))
      → IsLeastShown shown (take i looks) first → IsLeastShown shown (take (i + 1) looks) r
  least_step stands i d first r l e least =
      let more : IsLeastShown shown (take i looks ++ get_or looks i d ∷ []) (earlier_of first (shown (get_or looks i d))) = least_more shown stands (take i looks) (get_or looks i d) first least in
      let next : IsLeastShown shown (take (i + 1) looks) (earlier_of first (shown (get_or looks i d))) = subst (λ (l : List LookEntry). IsLeastShown shown l (earlier_of first (shown (get_or looks i d)))) (sym (take_more looks i d l)) more in
      subst (λ (o : Option Mismatch). IsLeastShown shown (take (i + 1) looks) o) (sym e) next

  pub least_all : (i : ℕ) (first : Option Mismatch) → length looks ≤ i → IsLeastShown shown (take i looks) first → IsLeastShown shown looks first
  least_all i first l least = subst (λ (l : List LookEntry). IsLeastShown shown l first) (take_all i looks l) least
