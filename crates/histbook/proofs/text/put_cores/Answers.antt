use Rattle.histbook.specs.JournalText.{core_lines}
use Rattle.textout.proofs.FrontLemmas.{on_err_back}
use Rattle.histbook.proofs.TextLemmas.{part_gained}
use Rattle.histbook.proofs.text.put_cores.Goals as goal

pub loop-core-preserved : goal.loop-core-preserved
loop-core-preserved c = part_gained core_lines c.args.books.now c.loop-core.core c.index-books-core.result _ _ _ c.loop-core-test.true c.index-books-core.is c.loop-core.invariant c.in_ok-put_core.ensures.ok

pub returns-in_err-put_core-clause-err : goal.returns-in_err-put_core-clause-err
returns-in_err-put_core-clause-err c = on_err_back c.from_residual.result _ _ _ _ c.loop-core.invariant c.in_err-put_core.ensures.err
