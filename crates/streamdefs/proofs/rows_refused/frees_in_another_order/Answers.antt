use Rattle.streamdefs.proofs.RefusedRuns.{exchanged-refused}
use Rattle.streamdefs.proofs.rows_refused.frees_in_another_order.Goals as goal

pub returns : goal.returns
returns c = record { parts = exchanged-refused }
