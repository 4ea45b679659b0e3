use Rattle.std.proofs.Common.{List, ℕ, subst}
use Rattle.handler.proofs.RuleLemmas.{IsReadAs, is_parsed, is_the_only, is_refused}
use Rattle.handler.proofs.rule.Rule.parse.Goals as goal

pub returns : goal.returns
returns c =
    let read : IsReadAs c.args.line.now c.read.result = subst (λ (line : List ℕ). IsReadAs line c.read.result) c.as_bytes.ensures.value c.read.ensures in
    record {
      parsed = is_parsed c.args.line.now c.read.result read;
      only = is_the_only c.args.line.now c.read.result read;
      refused = is_refused c.args.line.now c.read.result read;
    }
