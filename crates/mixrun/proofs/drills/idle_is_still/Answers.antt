use Rattle.mixrun.proofs.DrillEnds.{idle_is_still}
use Rattle.mixrun.proofs.drills.idle_is_still.Goals as goal

pub returns : goal.returns
returns c = idle_is_still
