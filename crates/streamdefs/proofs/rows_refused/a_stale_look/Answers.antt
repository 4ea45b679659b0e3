use Rattle.streamdefs.proofs.RefusedRuns.{stale-refused}
use Rattle.streamdefs.proofs.rows_refused.a_stale_look.Goals as goal

pub returns : goal.returns
returns c = record { parts = stale-refused }
