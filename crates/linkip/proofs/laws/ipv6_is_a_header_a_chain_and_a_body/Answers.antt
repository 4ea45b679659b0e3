use Rattle.linkip.proofs.Ipv6Laws.{ipv6_is_read}
use Rattle.linkip.proofs.laws.ipv6_is_a_header_a_chain_and_a_body.Goals as goal

pub returns : goal.returns
returns c = λ header headers proto body rest six chain t. ipv6_is_read header headers proto body rest six chain t
