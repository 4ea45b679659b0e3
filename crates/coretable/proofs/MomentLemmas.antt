-- The index of moments with one set anew.
use Rattle.std.specs.Prelude.{◌≡◌, ℕ, ◌==◌, cond, None, Some}
use Rattle.std.proofs.Common.{◌∙◌, ap}
use Rattle.std.specs.FinMap.{get, insert, remove, get-insert, get-remove}
use Rattle.std.specs.Cmp.{unsigned_tied}
use Rattle.std.proofs.lemmas.Cmp.{nat_cmp_total}
use Rattle.std.proofs.lemmas.Bool.Decides.{nat_tests}
use Rattle.std.proofs.Common.{arith}
use Rattle.deadlines.specs.Dues.{Dues}

turned : (a b : ℕ) → (a == b) ≡ (b == a)
turned a b = grind (arith, nat_tests)

pub moment_set : (index : Dues) (place moment other : ℕ) → get (insert index place moment) other ≡ cond (place == other) (Some moment) (get index other)
moment_set index place moment other =
    get-insert nat_cmp_total index place moment other ∙ ap (λ b. cond b (Some moment) (get index other)) (unsigned_tied other place ∙ turned other place)

pub moment_gone : (index : Dues) (place other : ℕ) → get (remove index place) other ≡ cond (place == other) None (get index other)
moment_gone index place other =
    get-remove nat_cmp_total index place other ∙ ap (λ b. cond b None (get index other)) (unsigned_tied other place ∙ turned other place)
