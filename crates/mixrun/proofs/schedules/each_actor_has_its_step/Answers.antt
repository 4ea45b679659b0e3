use Rattle.mixrun.proofs.ScheduleSteps.{acts_same, acts_step, idle_no_step}
use Rattle.mixrun.proofs.schedules.each_actor_has_its_step.Goals as goal

pub returns-clause-idle : goal.returns-clause-idle
returns-clause-idle c = idle_no_step

pub returns-clause-step : goal.returns-clause-step
returns-clause-step c = acts_step

pub returns-clause-one : goal.returns-clause-one
returns-clause-one c = acts_same
