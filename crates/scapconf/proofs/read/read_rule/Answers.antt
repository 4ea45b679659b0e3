use Rattle.std.proofs.Common.{List, ℕ, ap, sym, ◌∙◌, subst, refl}
use Rattle.linewords.specs.Words.{words}
use Rattle.handler.specs.declared.rule.Rule.{Rule}
use Rattle.handler.specs.Grammar.{IsRule}
use Rattle.scapconf.specs.declared.line_error.LineError.{LineError}
use Rattle.scapconf.specs.declared.name.Name.TheVariants as names
use Rattle.scapconf.specs.Parser.{Refuses}
use Rattle.scapconf.proofs.ReadLemmas.{rule_refused}
use Rattle.scapconf.proofs.read.read_rule.Goals as goal

pub returns-in-Ok : goal.returns-in-Ok
returns-in-Ok c =
    let is : IsRule (words c.args.line.now) c.in-Ok.rule = subst (λ (t : List ℕ). IsRule (words t) c.in-Ok.rule) c.text_of.ensures c.in-Ok.ensures.parsed in
    record { means = (refl, is); no_budget_fault = λ h. h; no_filter_fault = λ h. h; no_rule_fault = λ none. none c.in-Ok.rule is }

pub returns-in-Err : goal.returns-in-Err
returns-in-Err c =
    subst (λ (e : LineError). Refuses names.Rule (words c.args.line.now) e) (sym c.rule_fault.ensures)
    (rule_refused (words c.args.line.now) c.in-Err.error (λ h rule is. c.in-Err.ensures.refused h rule (subst (λ (t : List ℕ). IsRule (words t) rule) (sym c.text_of.ensures) is)))
