use Rattle.histbook.proofs.MovesLemmas.{room_follows}
use Rattle.histbook.proofs.laws.room_follows.Goals as goal

pub returns : goal.returns
returns c = room_follows
