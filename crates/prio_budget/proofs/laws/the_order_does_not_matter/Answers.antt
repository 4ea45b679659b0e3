use Rattle.prio_budget.proofs.OutLemmas.{reordered}
use Rattle.prio_budget.proofs.laws.the_order_does_not_matter.Goals as goal

pub returns : goal.returns
returns c = reordered c.args.budget.now
