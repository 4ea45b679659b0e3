use Rattle.std.proofs.Common.{◌≡◌, ◌+◌, take}
use Rattle.labtop.proofs.ReadLemmas.{from_first}
use Rattle.labtop.proofs.files.read_front.Goals as goal

pub returns-clause-bytes : goal.returns-clause-bytes
returns-clause-bytes g c = from_first (g.S.Source.left c.args.source.now) (λ file. c.read_rest.new.bytes.items ≡ take (c.args.most + 1) file) (rw c.new-bytes.ensures.items at c.in_ok-read_rest.ensures.bytes)
