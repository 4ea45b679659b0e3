use Rattle.porthdr.proofs.PayloadLaws.{kind-lies}
use Rattle.porthdr.proofs.laws.a_payload_lies_in_its_frame.Goals as goal

pub returns : goal.returns
returns c = λ link frame. kind-lies link frame
