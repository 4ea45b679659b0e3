use Rattle.streamdefs.proofs.RefusedRuns.{tight_right-refused}
use Rattle.streamdefs.proofs.rows_refused.the_next_ones_without_their_mistake.Goals as goal

pub returns : goal.returns
returns c = record { parts = tight_right-refused }
