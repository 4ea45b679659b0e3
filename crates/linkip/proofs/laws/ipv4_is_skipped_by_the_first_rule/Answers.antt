use Rattle.linkip.proofs.SkipLaws.{ipv4_is_skipped}
use Rattle.linkip.proofs.laws.ipv4_is_skipped_by_the_first_rule.Goals as goal

pub returns : goal.returns
returns c = λ header rest four. ipv4_is_skipped header rest four
