use Rattle.textout.proofs.FrontLemmas.{on_err_back}
use Rattle.histbook.proofs.lines.put_looks.Goals as goal

pub returns-in_err-put_look-clause-err : goal.returns-in_err-put_look-clause-err
returns-in_err-put_look-clause-err c = on_err_back c.from_residual.result _ _ _ _ c.loop-look.invariant c.in_err-put_look.ensures.err
