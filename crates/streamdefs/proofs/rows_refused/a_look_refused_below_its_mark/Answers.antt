use Rattle.streamdefs.proofs.RefusedRuns.{below_mark-refused}
use Rattle.streamdefs.proofs.rows_refused.a_look_refused_below_its_mark.Goals as goal

pub returns : goal.returns
returns c = record { parts = below_mark-refused }
