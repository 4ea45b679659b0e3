-- Sums over a list of which one place changes.
use Rattle.std.proofs.Common.{◌≡◌, ◌≢◌, ℕ, zero, suc, ◌+◌, ◌*◌, ◌≤◌, List, [], ◌∷◌, ◌++◌, set, refl, sym, ap, arith, mul-add, mul-zero}
use mathlib.Core.Option.{some, some-ne-none, some-injective}
use lib.ListN.{get_elem?}
use Rattle.prio_budget.specs.History.{total}

module _ {A : Type 0} (f : A → ℕ) where
  pub total_append : (l m : List A) → total f (l ++ m) ≡ total f l + total f m
  total_append [] m = omega arith
  total_append (x ∷ xs) m = omega (arith, total_append xs m)

  pub total_snoc : (l : List A) (a : A) → total f (l ++ a ∷ []) ≡ total f l + f a
  total_snoc [] a = omega arith
  total_snoc (x ∷ xs) a = omega (arith, total_snoc xs a)

  pub total_set : (l : List A) (i : ℕ) (a b : A) → get_elem? l i ≡ some a → total f (set l i b) + f a ≡ total f l + f b
  total_set [] i a b e = absurd (some-ne-none a (sym e))
  total_set (x ∷ xs) zero a b e = let h = ap f (some-injective x a e) in omega (arith, h)
  total_set (x ∷ xs) (suc i) a b e = omega (arith, total_set xs i a b e)

  -- one place is at most the sum
  pub total_one : (l : List A) (i : ℕ) (a : A) → get_elem? l i ≡ some a → f a ≤ total f l
  total_one [] i a e = absurd (some-ne-none a (sym e))
  total_one (x ∷ xs) zero a e = let h = ap f (some-injective x a e) in omega (arith, h)
  total_one (x ∷ xs) (suc i) a e = omega (arith, total_one xs i a e)

  -- two places too
  pub total_two : (l : List A) (i j : ℕ) (a b : A) → j ≢ i → get_elem? l i ≡ some a → get_elem? l j ≡ some b → f a + f b ≤ total f l
  total_two [] i j a b n e d = absurd (some-ne-none a (sym e))
  total_two (x ∷ xs) zero zero a b n e d = absurd (n refl)
  total_two (x ∷ xs) zero (suc j) a b n e d = let h = ap f (some-injective x a e) in omega (arith, h, total_one xs j b d)
  total_two (x ∷ xs) (suc i) zero a b n e d = let h = ap f (some-injective x b d) in omega (arith, h, total_one xs i a e)
  total_two (x ∷ xs) (suc i) (suc j) a b n e d = omega (arith, total_two xs i j a b (λ s. n (ap suc s)) e d)

  pub total_none : (l : List A) → ((j : ℕ) (b : A) → get_elem? l j ≡ some b → f b ≡ 0) → total f l ≡ 0
  total_none [] z = refl
  total_none (x ∷ xs) z = omega (arith, z 0 x refl, total_none xs (λ j b e. z (suc j) b e))

  -- where all other places have nothing, one place is the sum
  pub total_only : (l : List A) (i : ℕ) (a : A) → get_elem? l i ≡ some a → ((j : ℕ) (b : A) → j ≢ i → get_elem? l j ≡ some b → f b ≡ 0) → total f l ≡ f a
  total_only [] i a e z = absurd (some-ne-none a (sym e))
  total_only (x ∷ xs) zero a e z = let h = ap f (some-injective x a e) in omega (arith, h, total_none xs (λ j b d. z (suc j) b (λ s. omega arith) d))
  total_only (x ∷ xs) (suc i) a e z = omega (arith, z 0 x (λ s. omega arith) refl, total_only xs i a e (λ j b n d. z (suc j) b (λ s. n (omega arith)) d))

  -- a view is cut in two parts that add up
  pub total_split : (l : List A) (i : ℕ) (a left right : A) → get_elem? l i ≡ some a → f left + f right ≡ f a → total f (set l i left ++ right ∷ []) ≡ total f l
  total_split l i a left right e h = omega (arith, h, total_snoc (set l i left) right, total_set l i a left e)

  -- two views become one, and a spent one
  pub total_join : (l : List A) (i j : ℕ) (a b both spent : A) → get_elem? l i ≡ some a → get_elem? (set l i both) j ≡ some b → f both + f spent ≡ f a + f b → total f (set (set l i both) j spent) ≡ total f l
  total_join l i j a b both spent e d h = omega (arith, h, total_set l i a both e, total_set (set l i both) j b spent d)

module _ {A : Type 0} (f g : A → ℕ) where
  pub total_same : (l : List A) → ((j : ℕ) (b : A) → get_elem? l j ≡ some b → f b ≡ g b) → total f l ≡ total g l
  total_same [] z = refl
  total_same (x ∷ xs) z = omega (arith, z 0 x refl, total_same xs (λ j b e. z (suc j) b e))

  pub total_times : (k : ℕ) (l : List A) → ((j : ℕ) (b : A) → get_elem? l j ≡ some b → f b ≡ k * g b) → total f l ≡ k * total g l
  total_times k [] z = sym (mul-zero k)
  total_times k (x ∷ xs) z = omega (arith, mul-add k (g x) (total g xs), z 0 x refl, total_times k xs (λ j b e. z (suc j) b e))

  pub total_most : (l : List A) → ((b : A) → f b ≤ g b) → total f l ≤ total g l
  total_most [] z = omega arith
  total_most (x ∷ xs) z = omega (arith, z x, total_most xs z)
