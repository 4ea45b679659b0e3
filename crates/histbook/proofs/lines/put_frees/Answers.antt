use Rattle.textout.proofs.FrontLemmas.{on_err_back}
use Rattle.histbook.proofs.lines.put_frees.Goals as goal

pub returns-in_err-put_free-clause-err : goal.returns-in_err-put_free-clause-err
returns-in_err-put_free-clause-err c = on_err_back c.from_residual.result _ _ _ _ c.loop-free.invariant c.in_err-put_free.ensures.err
