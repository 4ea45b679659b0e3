use Rattle.linewords.specs.Words.{words}
use Rattle.handler.proofs.RuleLemmas.{one_rule}
use Rattle.handler.proofs.laws.lines_have_one_rule.Goals as goal

pub returns : goal.returns
returns c = λ line r s h g. one_rule (words line) r s h g
