use Rattle.streamdefs.proofs.RefusedRuns.{unasked-refused}
use Rattle.streamdefs.proofs.rows_refused.a_missing_ask.Goals as goal

pub returns : goal.returns
returns c = record { parts = unasked-refused }
