use Rattle.mixrun.proofs.DrillSteps.{drills_hold}
use Rattle.mixrun.proofs.drills.a_drill_keeps_its_order.Goals as goal

pub returns : goal.returns
returns c = drills_hold
