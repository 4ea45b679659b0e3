use Rattle.std.proofs.Common.{◌≡◌, ℕ, List, ◌++◌, ◌∙◌, append_assoc}
use Rattle.std.specs.Fmt.{decimal}
use Rattle.std.specs.Prelude.{codes}
use Rattle.std.proofs.lemmas.Result.{on_ok_weaker}
use Rattle.streamdefs.specs.Report.{bytes_line}
use Rattle.textout.proofs.FrontLemmas.{front_counted}
use Rattle.tally.proofs.LineLemmas.{front_next, on_err_kept}
use Rattle.tally.proofs.lines.put_bytes.Goals as goal

after_counts : (o a b c d e f g : List ℕ) (payload delivered duplicate late cut shed : ℕ) → a ≡ o ++ codes "bytes payload " ++ decimal payload → b ≡ a ++ codes " delivered " ++ decimal delivered
    → c ≡ b ++ codes " duplicate " ++ decimal duplicate → d ≡ c ++ codes " late " ++ decimal late → e ≡ d ++ codes " cut " ++ decimal cut
    → f ≡ e ++ codes " shed " ++ decimal shed → g ≡ f ++ codes "\n" → g ≡ o ++ bytes_line payload delivered duplicate late cut shed
unfolding bytes_line
after_counts o a b c d e f g payload delivered duplicate late cut shed p q r s t u v = v ∙ simp (u, t, s, r, q, p, append_assoc)

pub returns-clause-ok : goal.returns-clause-ok
unfolding bytes_line
returns-clause-ok c = on_ok_weaker c.put_text.result
    (after_counts _ _ _ _ _ _ _ _ c.args.sums.now.payload c.args.sums.now.taken c.args.sums.now.duplicate c.args.sums.now.late c.args.sums.now.cut c.args.sums.now.shed c.in_ok-put_count.ensures.ok c.in_ok-put_count-2.ensures.ok c.in_ok-put_count-3.ensures.ok c.in_ok-put_count-4.ensures.ok
    c.in_ok-put_count-5.ensures.ok c.in_ok-put_count-6.ensures.ok) c.put_text.ensures.ok

pub returns-clause-err : goal.returns-clause-err
returns-clause-err c = on_err_kept c.put_text.result _ _ _
    (front_next _ _ _ _ _ (front_next _ _ _ _ _ (front_next _ _ _ _ _ (front_next _ _ _ _ _ (front_next _ _ _ _ _ (front_counted _ _ _ _ c.in_ok-put_count.ensures.ok) c.in_ok-put_count-2.ensures.ok) c.in_ok-put_count-3.ensures.ok) c.in_ok-put_count-4.ensures.ok) c.in_ok-put_count-5.ensures.ok) c.in_ok-put_count-6.ensures.ok) c.put_text.ensures.err
