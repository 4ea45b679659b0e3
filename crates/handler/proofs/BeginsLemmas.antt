use Rattle.std.proofs.Common.{◌≡◌, ◌≤◌, ◌&&◌, ℕ, Bool, true, false, List, [], ◌∷◌, ◌++◌, length, take, drop, refl, sym, ◌∙◌, ap, arith, nat_eq}
use Rattle.std.specs.List.{starts_with}
use Rattle.std.specs.Cmp.Lexicographic.{pointwise}

-- The first bytes of two pieces.

and_assoc : (x y z : Bool) → ((x && y) && z) ≡ (x && (y && z))
and_assoc true y z = refl
and_assoc false y z = refl

-- where the first piece is no longer than what is asked for, it is the front of that, and the second piece begins with the rest
pub both_decide : (first second front : List ℕ) → length first ≤ length front
    → (pointwise nat_eq (take (length first) front) first && starts_with nat_eq second (drop (length first) front)) ≡ starts_with nat_eq (first ++ second) front
both_decide [] second front few = refl
both_decide (x ∷ xs) second [] few = absurd (omega arith)
both_decide (x ∷ xs) second (y ∷ ys) few = and_assoc (nat_eq y x) _ _ ∙ ap (λ (b : Bool). nat_eq y x && b) (both_decide xs second ys (omega arith))

module _ (first second front head tail : List ℕ) (r : Bool) (few : length first ≤ length front) (is_head : head ≡ take (length first) front) (is_r : r ≡ pointwise nat_eq head first) where
  told : pointwise nat_eq (take (length first) front) first ≡ r
  told = ap (λ (h : List ℕ). pointwise nat_eq h first) (sym is_head) ∙ sym is_r

  pub second_decides : (s : Bool) → r ≡ true → tail ≡ drop (length first) front → s ≡ starts_with nat_eq second tail → s ≡ starts_with nat_eq (first ++ second) front
  second_decides s begun is_tail is_s =
      is_s ∙ ap (λ (t : List ℕ). starts_with nat_eq second t) is_tail ∙ ap (λ (b : Bool). b && starts_with nat_eq second (drop (length first) front)) (sym (told ∙ begun)) ∙ both_decide first second front few

  pub first_refuses : r ≡ false → r ≡ starts_with nat_eq (first ++ second) front
  first_refuses other = other ∙ ap (λ (b : Bool). b && starts_with nat_eq second (drop (length first) front)) (sym (told ∙ other)) ∙ both_decide first second front few
