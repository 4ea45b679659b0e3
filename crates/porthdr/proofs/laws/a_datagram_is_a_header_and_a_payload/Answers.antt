use Rattle.porthdr.proofs.BodyLaws.{datagram_is_read}
use Rattle.porthdr.proofs.laws.a_datagram_is_a_header_and_a_payload.Goals as goal

pub returns : goal.returns
returns c = λ source target declared header payload rest sized. datagram_is_read source target declared header payload rest sized
