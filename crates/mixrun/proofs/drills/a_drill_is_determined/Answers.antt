use Rattle.mixrun.proofs.DrillRuns.{drills_same}
use Rattle.mixrun.proofs.drills.a_drill_is_determined.Goals as goal

pub returns : goal.returns
returns c = drills_same
