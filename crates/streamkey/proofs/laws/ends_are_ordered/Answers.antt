use Rattle.streamkey.proofs.OrderLemmas.{end_order-turned, end_order-same}
use Rattle.streamkey.proofs.laws.ends_are_ordered.Goals as goal

pub returns : goal.returns
returns c = record {
  exchanged = end_order-turned c.args.a c.args.b;
  equal = end_order-same c.args.a c.args.b;
}
