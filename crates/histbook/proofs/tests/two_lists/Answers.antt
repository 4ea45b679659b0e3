use Rattle.std.proofs.Common.{◌≡◌, ◌<◌, ◌^◌, ℕ, List, [], ◌∷◌, ◌++◌, ◌∙◌, ap, sym, subst, arith, length}
use Rattle.std.specs.Prelude.{All}
use Rattle.std.proofs.lemmas.List.Elements.{All-push}
use Rattle.histbook.specs.Runs.{HasShortRuns}
use Rattle.histbook.proofs.RunsLemmas.{short_lists}
use Rattle.histbook.proofs.tests.two_lists.Goals as goal

none : All HasShortRuns []
none k d less = absurd (omega arith)

pub returns : goal.returns
returns c =
    let first = c.in_ok-first.first in
    let second = c.new-second.result in
    let one : length first < 2 ^ 64 = omega (arith, c.in_ok-first.ensures) in
    let two : length second < 2 ^ 64 = omega (arith, ap (λ (l : List ℕ). length l) c.new-second.ensures) in
    let held : c.of.result ≡ ([] ++ first ∷ []) ++ second ∷ [] =
    c.of.ensures ∙ c.in_ok-push-2.ensures.items ∙ ap (λ (l : List (List ℕ)). l ++ second ∷ []) (c.in_ok-push.ensures.items ∙ ap (λ (l : List (List ℕ)). l ++ first ∷ []) c.new-lists.ensures.items) in
    subst (All HasShortRuns) (sym held) (All-push HasShortRuns ([] ++ first ∷ []) second (All-push HasShortRuns [] first none (short_lists first one)) (short_lists second two))
