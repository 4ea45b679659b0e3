use Rattle.linewords.specs.Words.{words}
use Rattle.handler.proofs.DecideLemmas.{rule_decided}
use Rattle.handler.proofs.laws.lines_are_rules_or_none.Goals as goal

pub returns : goal.returns
returns c = λ line. rule_decided (words line)
