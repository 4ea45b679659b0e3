use Rattle.streamdefs.proofs.RefusedRuns.{split_in_two-refused}
use Rattle.streamdefs.proofs.rows_refused.a_surplus_conversation.Goals as goal

pub returns : goal.returns
returns c = record { parts = split_in_two-refused }
