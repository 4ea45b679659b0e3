use Rattle.streamdefs.proofs.RefusedRuns.{falling-refused}
use Rattle.streamdefs.proofs.rows_refused.frees_that_fall.Goals as goal

pub returns : goal.returns
returns c = record { parts = falling-refused }
