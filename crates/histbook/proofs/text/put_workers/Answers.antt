use Rattle.histbook.specs.JournalText.{worker_lines}
use Rattle.textout.proofs.FrontLemmas.{on_err_back}
use Rattle.histbook.proofs.TextLemmas.{part_gained}
use Rattle.histbook.proofs.text.put_workers.Goals as goal

pub loop-worker-preserved : goal.loop-worker-preserved
loop-worker-preserved c = part_gained worker_lines c.args.lists.now c.loop-worker.worker c.index-lists-worker.result _ _ _ c.loop-worker-test.true c.index-lists-worker.is c.loop-worker.invariant c.in_ok-put_worker.ensures.ok

pub returns-in_err-put_worker-clause-err : goal.returns-in_err-put_worker-clause-err
returns-in_err-put_worker-clause-err c = on_err_back c.from_residual.result _ _ _ _ c.loop-worker.invariant c.in_err-put_worker.ensures.err
