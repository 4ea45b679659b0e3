use Rattle.streamkey.proofs.KeyLemmas.{way_of-ends}
use Rattle.streamkey.proofs.laws.two_ends_give_a_way.Goals as goal

pub returns : goal.returns
returns c = way_of-ends c.args.proto c.args.source c.args.target
