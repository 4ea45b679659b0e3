use Rattle.streamdefs.proofs.RefusedRuns.{bookless-refused}
use Rattle.streamdefs.proofs.rows_refused.a_core_without_a_book.Goals as goal

pub returns : goal.returns
returns c = record { parts = bookless-refused }
