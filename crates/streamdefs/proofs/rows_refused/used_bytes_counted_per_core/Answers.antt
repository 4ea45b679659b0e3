use Rattle.streamdefs.proofs.RefusedRuns.{private-refused}
use Rattle.streamdefs.proofs.rows_refused.used_bytes_counted_per_core.Goals as goal

pub returns : goal.returns
returns c = record { parts = private-refused }
