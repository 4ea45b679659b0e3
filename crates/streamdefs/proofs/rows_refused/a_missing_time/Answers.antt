use Rattle.streamdefs.proofs.RefusedRuns.{timeless-refused}
use Rattle.streamdefs.proofs.rows_refused.a_missing_time.Goals as goal

pub returns : goal.returns
returns c = record { parts = timeless-refused }
