use Rattle.streamdefs.proofs.OrderedViews.{ordered_after}
use Rattle.streamdefs.proofs.laws.positions_rise.Goals as goal

pub returns : goal.returns
returns c = record { order = ordered_after }
