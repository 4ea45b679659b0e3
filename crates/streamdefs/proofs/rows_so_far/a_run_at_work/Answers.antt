use Rattle.streamdefs.proofs.Moments.{working-holds}
use Rattle.streamdefs.proofs.rows_so_far.a_run_at_work.Goals as goal

pub returns : goal.returns
returns c = working-holds
