use Rattle.streamdefs.proofs.RefusedRuns.{surplus-refused}
use Rattle.streamdefs.proofs.rows_refused.a_surplus_core.Goals as goal

pub returns : goal.returns
returns c = record { parts = surplus-refused }
