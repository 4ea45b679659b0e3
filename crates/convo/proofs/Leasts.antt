-- The least of moments.
use Rattle.std.proofs.Common.{◌≡◌, refl, sym, ◌∙◌, ap, ℕ, cond, List, [], ◌∷◌, ◌++◌, Option, Some, None, arith}
use Rattle.std.specs.Prelude.{nat_le}
use Rattle.std.proofs.lemmas.Bool.Decides.{nat_tests}
use Rattle.flowdir.specs.Boundary.{least_of}
use Rattle.convo.specs.Standing.{least_by}

least_three : (x a b : ℕ) → cond (nat_le x (cond (nat_le a b) a b)) x (cond (nat_le a b) a b) ≡ cond (nat_le (cond (nat_le x a) x a) b) (cond (nat_le x a) x a) b
least_three x a b = grind (arith, nat_tests)

least_step : (x : ℕ) (a b : Option ℕ) → least_by (Some x) (least_by a b) ≡ least_by (least_by (Some x) a) b
least_step x None b = refl
least_step x (Some a) None = refl
least_step x (Some a) (Some b) = ap Some (least_three x a b)

least_head : (x : ℕ) (rest : List ℕ) → least_of (x ∷ rest) ≡ least_by (Some x) (least_of rest)
least_head x rest = by (least_of rest) refl
  where
    by : (r : Option ℕ) → least_of rest ≡ r → least_of (x ∷ rest) ≡ least_by (Some x) r
    by None e = rw e refl
    by (Some m) e = rw e refl

pub least_append : (xs ys : List ℕ) → least_of (xs ++ ys) ≡ least_by (least_of xs) (least_of ys)
least_append [] ys = refl
least_append (x ∷ xs) ys =
    least_head x (xs ++ ys) ∙ ap (λ r. least_by (Some x) r) (least_append xs ys) ∙ least_step x (least_of xs) (least_of ys) ∙ ap (λ r. least_by r (least_of ys)) (sym (least_head x xs))
