use Rattle.std.proofs.Common.{◌≡◌, ℕ, List, [], ◌∷◌, ◌++◌, ◌∙◌, ap, sym, subst, arith}
use Rattle.std.specs.Prelude.{All}
use Rattle.std.proofs.lemmas.List.Elements.{All-push}
use Rattle.histbook.specs.Runs.{HasShortRuns}
use Rattle.histbook.proofs.RunsLemmas.{short_lists}
use Rattle.histbook.proofs.tests.served_by.Goals as goal

none : All HasShortRuns []
none k d less = absurd (omega arith)

pub returns : goal.returns
returns c =
    let held : c.of.result ≡ [] ++ c.args.list ∷ [] = c.of.ensures ∙ c.in_ok-push.ensures.items ∙ ap (λ (l : List (List ℕ)). l ++ c.args.list ∷ []) c.new-lists.ensures.items in
    subst (All HasShortRuns) (sym held) (All-push HasShortRuns [] c.args.list none (short_lists c.args.list c.requires))
