use Rattle.streamdefs.proofs.RefusedRuns.{lost-refused}
use Rattle.streamdefs.proofs.rows_refused.a_lost_charge.Goals as goal

pub returns : goal.returns
returns c = record { parts = lost-refused }
