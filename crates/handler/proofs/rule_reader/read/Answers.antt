use Rattle.linewords.specs.Words.{words}
use Rattle.handler.proofs.RuleLemmas.{memory_or, no_condition, no_advice_behind, rule_is}
use Rattle.handler.proofs.rule_reader.read.Goals as goal

pub returns-in-Err : goal.returns-in-Err
returns-in-Err c = memory_or c.in-Err.error (λ none rule. no_condition (words c.args.line.now) rule none) c.in-Err.ensures

pub returns-in-None : goal.returns-in-None
returns-in-None c = λ rule. no_advice_behind (words c.args.line.now) c.in-Ok.condition rule c.in-Ok.ensures c.in-None.ensures

pub returns-in-Some : goal.returns-in-Some
returns-in-Some c = rule_is (words c.args.line.now) _ c.in-Ok.ensures c.in-Some.ensures
