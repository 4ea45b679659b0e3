use Rattle.streamdefs.proofs.RefusedRuns.{unended-refused}
use Rattle.streamdefs.proofs.rows_refused.a_missing_end.Goals as goal

pub returns : goal.returns
returns c = record { parts = unended-refused }
