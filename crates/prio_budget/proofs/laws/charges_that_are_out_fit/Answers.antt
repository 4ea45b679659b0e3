use Rattle.prio_budget.proofs.OutLemmas.{releasable}
use Rattle.prio_budget.proofs.laws.charges_that_are_out_fit.Goals as goal

pub returns-clause-each : goal.returns-clause-each
returns-clause-each c = releasable c.args.budget.now
