use Rattle.linkip.proofs.Ipv4Laws.{ipv4_is_read}
use Rattle.linkip.proofs.laws.ipv4_is_a_header_and_a_body.Goals as goal

pub returns : goal.returns
returns c = λ header body rest plain. ipv4_is_read header body rest plain
