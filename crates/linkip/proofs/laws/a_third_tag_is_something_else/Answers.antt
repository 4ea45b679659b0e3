use Rattle.linkip.proofs.FrameLaws.{third_tag}
use Rattle.linkip.proofs.laws.a_third_tag_is_something_else.Goals as goal

pub returns : goal.returns
returns c = λ a b d inner. third_tag a b d inner
