use Rattle.streamdefs.proofs.WholeHistories.{so_far_delivered, at_end_delivered, each_once}
use Rattle.streamdefs.proofs.laws.histories_deliver_each_byte_once.Goals as goal

pub returns : goal.returns
returns c = record { so_far = so_far_delivered; at_end = at_end_delivered; once = each_once }
