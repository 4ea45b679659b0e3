use Rattle.mixrun.proofs.DrillEnds.{drill_is_whole}
use Rattle.mixrun.proofs.drills.a_drill_is_whole.Goals as goal

pub returns : goal.returns
returns c = drill_is_whole
