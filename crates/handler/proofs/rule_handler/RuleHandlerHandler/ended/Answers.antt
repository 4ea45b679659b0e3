use Rattle.std.proofs.Common.{sym, ◌∙◌}
use Rattle.handler.proofs.TruthLemmas.{no_advice_at_ends}
use Rattle.handler.proofs.rule_handler.RuleHandlerHandler.ended.Goals as goal

pub returns : goal.returns
returns c = c.none.ensures ∙ sym (no_advice_at_ends c.args.self.now c.args._reason)
