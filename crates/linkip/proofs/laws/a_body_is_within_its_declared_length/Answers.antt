use Rattle.linkip.proofs.PacketLemmas.{network-within}
use Rattle.linkip.proofs.laws.a_body_is_within_its_declared_length.Goals as goal

pub returns : goal.returns
returns c = λ link frame. network-within link frame
