use Rattle.mixrun.proofs.GoingOn.{stopped_at_first, steps_stop, offers_stop}
use Rattle.mixrun.proofs.schedules.tables_have_stopped.Goals as goal

pub returns-clause-first : goal.returns-clause-first
returns-clause-first c = stopped_at_first

pub returns-clause-step : goal.returns-clause-step
returns-clause-step c = steps_stop

pub returns-clause-offer : goal.returns-clause-offer
returns-clause-offer c = offers_stop
