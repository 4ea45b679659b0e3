use Rattle.textout.proofs.FrontLemmas.{on_err_back}
use Rattle.histbook.proofs.lines.put_book.Goals as goal

pub returns-in_err-put_entry-clause-err : goal.returns-in_err-put_entry-clause-err
returns-in_err-put_entry-clause-err c = on_err_back c.from_residual.result _ _ _ _ c.loop-entry.invariant c.in_err-put_entry.ensures.err
