use Rattle.textout.proofs.FrontLemmas.{front_counted, front_over, on_err_over}
use Rattle.histbook.proofs.lines.put_look.Goals as goal

pub returns-clause-err : goal.returns-clause-err
returns-clause-err c =
    on_err_over c.put_count-3.result _ _ _
    (front_over _ _ _ (front_counted _ _ _ _ c.in_ok-put_count.ensures.ok) (front_counted _ _ _ _ c.in_ok-put_count-2.ensures.ok)) c.put_count-3.ensures.err
