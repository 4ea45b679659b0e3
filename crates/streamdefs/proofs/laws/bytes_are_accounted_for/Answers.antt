use Rattle.streamdefs.proofs.Accounted.{accounted, accounted_at_end}
use Rattle.streamdefs.proofs.laws.bytes_are_accounted_for.Goals as goal

pub returns : goal.returns
returns c = record { so_far = accounted; at_end = accounted_at_end }
