use Rattle.streamdefs.proofs.WholeHistories.{all_ordered}
use Rattle.streamdefs.proofs.laws.histories_keep_order.Goals as goal

pub returns : goal.returns
returns c = all_ordered
