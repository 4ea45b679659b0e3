use Rattle.streamdefs.proofs.RefusedRuns.{shown_again-refused}
use Rattle.streamdefs.proofs.rows_refused.a_kept_chunk_shown_again.Goals as goal

pub returns : goal.returns
returns c = record { parts = shown_again-refused }
