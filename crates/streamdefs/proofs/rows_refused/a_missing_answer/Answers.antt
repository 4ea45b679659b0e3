use Rattle.streamdefs.proofs.RefusedRuns.{unanswered-refused}
use Rattle.streamdefs.proofs.rows_refused.a_missing_answer.Goals as goal

pub returns : goal.returns
returns c = record { parts = unanswered-refused }
