use Rattle.std.proofs.Common.{rules}
use Rattle.streamkey.proofs.HashLemmas.{is_symmetric}
use Rattle.streamkey.proofs.laws.both_ways.Goals as goal

pub returns : goal.returns
returns c = is_symmetric c.args.a c.args.b (search rules) (search rules)
