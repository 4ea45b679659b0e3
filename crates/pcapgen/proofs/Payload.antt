use Rattle.std.proofs.Common.{◌≡◌, ℕ, ◌+◌, ◌-◌, ◌≤◌, List, [], ◌∷◌, ◌++◌, map, ap, sym, ◌∙◌, arith, append_assoc}
use Rattle.std.specs.List.{range_with_len}
use Rattle.std.proofs.lemmas.List.FromFn.{map-range_with_len_more}

-- one element more of a text that is the numbers from a on, each by a function
pub one_more : {X : Type 0} (f : ℕ → X) (out before after : List X) (a at : ℕ) → a ≤ at → before ≡ out ++ map f (range_with_len a (at - a)) → after ≡ before ++ f at ∷ []
    → after ≡ out ++ map f (range_with_len a (at + 1 - a))
one_more f out before after a at h p q =
    let n : ℕ = at - a in
    let there : a + n ≡ at = omega arith in
    let next : at + 1 - a ≡ n + 1 = omega arith in
    let grown : map f (range_with_len a (n + 1)) ≡ map f (range_with_len a n) ++ f at ∷ [] = map-range_with_len_more f a n at there in
    q ∙ ap (λ x. x ++ f at ∷ []) p ∙ append_assoc out (map f (range_with_len a n)) (f at ∷ [])
    ∙ ap (λ x. out ++ x) (sym grown) ∙ ap (λ k. out ++ map f (range_with_len a k)) (sym next)
