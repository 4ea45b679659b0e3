use Rattle.linkip.proofs.SkipLaws.{ipv6_is_skipped}
use Rattle.linkip.proofs.laws.ipv6_is_skipped_by_its_chain.Goals as goal

pub returns : goal.returns
returns c = λ header headers last rest six chain said. ipv6_is_skipped header headers last rest six chain said
