use Rattle.prio_budget.proofs.MarkLemmas.{last-mark}
use Rattle.prio_budget.proofs.laws.the_last_mark_is_the_limit.Goals as goal

pub returns : goal.returns
returns c = last-mark c.args.marks.now c.limit.ensures.lawful
