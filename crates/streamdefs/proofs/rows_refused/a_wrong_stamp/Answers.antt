use Rattle.streamdefs.proofs.RefusedRuns.{stamped_past-refused}
use Rattle.streamdefs.proofs.rows_refused.a_wrong_stamp.Goals as goal

pub returns : goal.returns
returns c = record { parts = stamped_past-refused }
