use Rattle.streamdefs.proofs.RefusedRuns.{stamped_twice-refused}
use Rattle.streamdefs.proofs.rows_refused.a_stamp_twice.Goals as goal

pub returns : goal.returns
returns c = record { parts = stamped_twice-refused }
