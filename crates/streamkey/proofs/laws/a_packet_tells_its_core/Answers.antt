use Rattle.std.proofs.Common.{rules}
use Rattle.streamkey.proofs.HashLemmas.{core_of_packet}
use Rattle.streamkey.proofs.laws.a_packet_tells_its_core.Goals as goal

pub returns : goal.returns
returns c = core_of_packet c.args.proto c.args.source c.args.target c.args.cores (search rules) (search rules)
