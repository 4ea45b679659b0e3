use Rattle.mixrun.proofs.ScheduleRuns.{runs_same, seeds_same}
use Rattle.mixrun.proofs.schedules.schedules_determine_runs.Goals as goal

pub returns-clause-actors : goal.returns-clause-actors
returns-clause-actors c = runs_same

pub returns-clause-seed : goal.returns-clause-seed
returns-clause-seed c = seeds_same
