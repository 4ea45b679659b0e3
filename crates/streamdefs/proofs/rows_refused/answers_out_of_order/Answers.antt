use Rattle.streamdefs.proofs.RefusedRuns.{swapped-refused}
use Rattle.streamdefs.proofs.rows_refused.answers_out_of_order.Goals as goal

pub returns : goal.returns
returns c = record { parts = swapped-refused }
