use Rattle.streamdefs.proofs.RefusedRuns.{backwards-refused}
use Rattle.streamdefs.proofs.rows_refused.a_worker_that_goes_back.Goals as goal

pub returns : goal.returns
returns c = record { parts = backwards-refused }
