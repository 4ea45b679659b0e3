use Rattle.linkip.proofs.LyingLaws.{network-lies}
use Rattle.linkip.proofs.laws.a_body_lies_in_its_frame.Goals as goal

pub returns : goal.returns
returns c = λ link frame. network-lies link frame
