use Rattle.std.proofs.Common.{arith}
use Rattle.streamkey.proofs.HashLemmas.{even_byte}
use Rattle.streamkey.proofs.hash.at_even.Goals as goal

pub returns : goal.returns
returns c = even_byte c.args.byte (omega arith)
