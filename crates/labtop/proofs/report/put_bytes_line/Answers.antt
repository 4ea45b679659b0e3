use Rattle.std.proofs.Common.{◌≡◌, ℕ, List, ◌++◌, ◌∙◌, append_assoc}
use Rattle.std.specs.Fmt.{decimal}
use Rattle.std.specs.Prelude.{codes}
use Rattle.std.proofs.lemmas.Result.{on_ok_weaker}
use Rattle.streamdefs.specs.Report.{bytes_line}
use Rattle.labtop.proofs.report.put_bytes_line.Goals as goal

after_counts : (o a b c d e f g : List ℕ) (payload delivered shed : ℕ) → a ≡ o ++ codes "bytes payload " ++ decimal payload → b ≡ a ++ codes " delivered " ++ decimal delivered
    → c ≡ b ++ codes " duplicate " ++ decimal 0 → d ≡ c ++ codes " late " ++ decimal 0 → e ≡ d ++ codes " cut " ++ decimal 0
    → f ≡ e ++ codes " shed " ++ decimal shed → g ≡ f ++ codes "\n" → g ≡ o ++ bytes_line payload delivered 0 0 0 shed
unfolding bytes_line
after_counts o a b c d e f g payload delivered shed p q r s t u v = v ∙ simp (u, t, s, r, q, p, append_assoc)

pub returns : goal.returns
unfolding bytes_line
returns c = on_ok_weaker c.put_text.result
    (after_counts _ _ _ _ _ _ _ _ c.args.totals.now.payload c.args.totals.now.delivered c.args.totals.now.shed c.in_ok-put_count.ensures.ok c.in_ok-put_count-2.ensures.ok c.in_ok-put_count-3.ensures.ok c.in_ok-put_count-4.ensures.ok
    c.in_ok-put_count-5.ensures.ok c.in_ok-put_count-6.ensures.ok) c.put_text.ensures.ok
