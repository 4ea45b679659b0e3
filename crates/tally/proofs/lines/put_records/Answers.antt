use Rattle.textout.proofs.FrontLemmas.{front_counted}
use Rattle.tally.proofs.LineLemmas.{front_next, on_err_kept}
use Rattle.tally.proofs.lines.put_records.Goals as goal

pub returns-clause-err : goal.returns-clause-err
returns-clause-err c = on_err_kept c.put_text.result _ _ _
    (front_next _ _ _ _ _ (front_next _ _ _ _ _ (front_next _ _ _ _ _ (front_next _ _ _ _ _ (front_next _ _ _ _ _ (front_counted _ _ _ _ c.in_ok-put_count.ensures.ok) c.in_ok-put_count-2.ensures.ok) c.in_ok-put_count-3.ensures.ok) c.in_ok-put_count-4.ensures.ok) c.in_ok-put_count-5.ensures.ok) c.in_ok-put_count-6.ensures.ok) c.put_text.ensures.err
