use Rattle.std.proofs.Common.{◌≡◌, ℕ, List, ◌++◌, ◌∙◌, append_assoc}
use Rattle.std.specs.Fmt.{decimal}
use Rattle.std.specs.Prelude.{codes}
use Rattle.std.proofs.lemmas.Result.{on_ok_weaker}
use Rattle.streamdefs.specs.Report.{head_lines}
use Rattle.tally.proofs.lines.put_head.Goals as goal

after_head : (o a b c d : List ℕ) (cores workers m n : ℕ) → m ≡ cores → n ≡ workers → a ≡ o ++ codes "scap report 1\n" → b ≡ a ++ codes "cores " ++ decimal m
    → c ≡ b ++ codes " workers " ++ decimal n → d ≡ c ++ codes "\n" → d ≡ o ++ head_lines cores workers
unfolding head_lines
after_head o a b c d cores workers m n x y p q r s = s ∙ simp (r, q, p, x, y, append_assoc)

pub returns-clause-ok : goal.returns-clause-ok
unfolding head_lines
returns-clause-ok c = on_ok_weaker c.put_text-2.result
    (after_head _ _ _ _ _ c.args.cores c.args.workers _ _ c.from.ensures c.from-2.ensures c.in_ok-put_text.ensures.ok c.in_ok-put_count.ensures.ok c.in_ok-put_count-2.ensures.ok) c.put_text-2.ensures.ok
