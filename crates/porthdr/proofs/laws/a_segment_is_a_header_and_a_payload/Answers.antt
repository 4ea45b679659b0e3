use Rattle.porthdr.proofs.BodyLaws.{segment_is_read}
use Rattle.porthdr.proofs.laws.a_segment_is_a_header_and_a_payload.Goals as goal

pub returns : goal.returns
returns c = λ source target declared header payload plain. segment_is_read source target declared header payload plain
