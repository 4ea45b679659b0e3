use Rattle.streamdefs.proofs.RefusedRuns.{above_mark-refused}
use Rattle.streamdefs.proofs.rows_refused.a_look_granted_above_its_mark.Goals as goal

pub returns : goal.returns
returns c = record { parts = above_mark-refused }
