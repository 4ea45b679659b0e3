use Rattle.mixrun.proofs.ScheduleRuns.{runs_reach, seeds_reach, steps_lead_on}
use Rattle.mixrun.proofs.schedules.runs_are_steps.Goals as goal

pub returns-clause-actors : goal.returns-clause-actors
returns-clause-actors c = runs_reach

pub returns-clause-seed : goal.returns-clause-seed
returns-clause-seed c = seeds_reach

pub returns-clause-holds : goal.returns-clause-holds
returns-clause-holds c = steps_lead_on
