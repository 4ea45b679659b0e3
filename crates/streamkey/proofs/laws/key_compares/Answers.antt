use Rattle.streamkey.proofs.OrderLemmas.{cmp-key_order}
use Rattle.streamkey.proofs.laws.key_compares.Goals as goal

pub returns : goal.returns
returns c = cmp-key_order c.args.a c.args.b
