use Rattle.linkip.proofs.FrameLaws.{tags_passed}
use Rattle.linkip.proofs.laws.tags_are_passed.Goals as goal

pub returns : goal.returns
returns c = λ tags inner. tags_passed tags inner
