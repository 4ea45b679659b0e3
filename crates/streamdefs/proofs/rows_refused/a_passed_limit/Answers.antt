use Rattle.streamdefs.proofs.RefusedRuns.{boundless-refused}
use Rattle.streamdefs.proofs.rows_refused.a_passed_limit.Goals as goal

pub returns : goal.returns
returns c = record { parts = boundless-refused }
