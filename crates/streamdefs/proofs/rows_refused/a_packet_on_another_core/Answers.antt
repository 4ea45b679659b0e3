use Rattle.streamdefs.proofs.RefusedRuns.{astray-refused}
use Rattle.streamdefs.proofs.rows_refused.a_packet_on_another_core.Goals as goal

pub returns : goal.returns
returns c = record { parts = astray-refused }
