use Rattle.streamdefs.proofs.Moments.{one_under_way-holds}
use Rattle.streamdefs.proofs.rows_so_far.a_run_with_an_entry_under_way.Goals as goal

pub returns : goal.returns
returns c = one_under_way-holds
