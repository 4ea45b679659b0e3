use Rattle.streamdefs.proofs.RefusedRuns.{unreplaced-refused}
use Rattle.streamdefs.proofs.rows_refused.a_wrong_conversation.Goals as goal

pub returns : goal.returns
returns c = record { parts = unreplaced-refused }
