use Rattle.streamdefs.proofs.RefusedRuns.{unopened-refused}
use Rattle.streamdefs.proofs.rows_refused.an_end_of_nothing.Goals as goal

pub returns : goal.returns
returns c = record { parts = unopened-refused }
