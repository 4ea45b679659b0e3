use Rattle.streamdefs.proofs.RefusedRuns.{unreset-refused}
use Rattle.streamdefs.proofs.rows_refused.a_missing_reset.Goals as goal

pub returns : goal.returns
returns c = record { parts = unreset-refused }
