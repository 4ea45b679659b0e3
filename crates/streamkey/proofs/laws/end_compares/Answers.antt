use Rattle.streamkey.proofs.OrderLemmas.{cmp-end_order}
use Rattle.streamkey.proofs.laws.end_compares.Goals as goal

pub returns : goal.returns
returns c = cmp-end_order c.args.a c.args.b
