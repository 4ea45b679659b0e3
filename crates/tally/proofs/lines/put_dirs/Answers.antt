use Rattle.std.proofs.Common.{arith}
use Rattle.textout.proofs.FrontLemmas.{on_err_back}
use Rattle.tally.proofs.SumLemmas.{one_fits}
use Rattle.tally.proofs.lines.put_dirs.Goals as goal

pub put_dir-requires : goal.put_dir-requires
put_dir-requires c = one_fits c.args.dirs.now c.loop-dir.dir-index _ (omega arith) c.requires

pub returns-in_err-put_dir-clause-err : goal.returns-in_err-put_dir-clause-err
returns-in_err-put_dir-clause-err c = on_err_back c.from_residual.result _ _ _ _ c.loop-dir.invariant c.in_err-put_dir.ensures.err
