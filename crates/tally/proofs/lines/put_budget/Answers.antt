use Rattle.std.proofs.Common.{◌≡◌, ℕ, List, ◌++◌, ◌∙◌, append_assoc}
use Rattle.std.specs.Fmt.{decimal}
use Rattle.std.specs.Prelude.{codes}
use Rattle.std.proofs.lemmas.Result.{on_ok_weaker}
use Rattle.streamdefs.specs.Report.{budget_line}
use Rattle.tally.proofs.lines.put_budget.Goals as goal

after_numbers : (o a b c d : List ℕ) (stamps peak refused m n : ℕ) → m ≡ stamps → n ≡ peak → a ≡ o ++ codes "budget stamps " ++ decimal m → b ≡ a ++ codes " peak " ++ decimal n
    → c ≡ b ++ codes " refused " ++ decimal refused → d ≡ c ++ codes "\n" → d ≡ o ++ budget_line stamps peak refused
unfolding budget_line
after_numbers o a b c d stamps peak refused m n x y p q r s = s ∙ simp (r, q, p, x, y, append_assoc)

pub returns-clause-ok : goal.returns-clause-ok
unfolding budget_line
returns-clause-ok c = on_ok_weaker c.put_text.result
    (after_numbers _ _ _ _ _ c.args.peak.now.stamps c.args.peak.now.peak c.args.refused _ _ c.from.ensures c.from-2.ensures c.in_ok-put_count.ensures.ok c.in_ok-put_count-2.ensures.ok c.in_ok-put_count-3.ensures.ok) c.put_text.ensures.ok
