use Rattle.textout.proofs.FrontLemmas.{on_err_back}
use Rattle.histbook.proofs.text.put_runs.Goals as goal

pub returns-in_err-put_run-clause-err : goal.returns-in_err-put_run-clause-err
returns-in_err-put_run-clause-err c = on_err_back c.from_residual.result _ _ _ _ c.loop-core.invariant c.in_err-put_run.ensures.err
