use Rattle.mixrun.proofs.GoingOn.{each_goes_on}
use Rattle.mixrun.proofs.schedules.each_actor_goes_on.Goals as goal

pub returns : goal.returns
returns c = each_goes_on
