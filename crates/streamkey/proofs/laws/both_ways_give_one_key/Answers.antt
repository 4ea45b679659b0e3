use Rattle.streamkey.proofs.KeyLemmas.{both_ways}
use Rattle.streamkey.proofs.laws.both_ways_give_one_key.Goals as goal

pub returns : goal.returns
returns c =
    let both = both_ways c.args.proto c.args.source c.args.target in
    record { key = both.0; way = both.1 }
