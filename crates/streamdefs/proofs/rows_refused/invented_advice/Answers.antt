use Rattle.streamdefs.proofs.RefusedRuns.{invented-refused}
use Rattle.streamdefs.proofs.rows_refused.invented_advice.Goals as goal

pub returns : goal.returns
returns c = record { parts = invented-refused }
