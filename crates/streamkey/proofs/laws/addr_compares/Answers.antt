use Rattle.streamkey.proofs.OrderLemmas.{cmp-addr_order}
use Rattle.streamkey.proofs.laws.addr_compares.Goals as goal

pub returns : goal.returns
returns c = cmp-addr_order c.args.a c.args.b
