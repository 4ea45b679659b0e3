use Rattle.std.proofs.Common.{◌≡◌, ℕ, List, Some, Err, refl, sym, ◌∙◌, ap}
use Rattle.std.specs.Result.{IsErrOf}
use Rattle.prio_budget.specs.MarkParts.{MarkParts}
use Rattle.linewords.specs.Words.{Words, word_at}
use Rattle.scapconf.specs.Values.{budget}
use Rattle.scapconf.specs.Faults.{budget_in}
use Rattle.handler.specs.declared.rule.Rule.{Rule}
use Rattle.handler.specs.declared.rule_error.RuleError.{RuleError}
use Rattle.handler.specs.declared.rule_error.RuleError.TheVariants as faults
use Rattle.handler.specs.Grammar.{IsRule}
use Rattle.scapconf.specs.declared.name.Name.TheVariants as names
use Rattle.scapconf.specs.Parser.{Refuses, rule_fault}

-- the budget of a line's words
pub budget_said : (ws : Words) (l b n : List ℕ) (m : MarkParts) → l ≡ word_at 1 ws → b ≡ word_at 2 ws → n ≡ word_at 3 ws → budget l b n ≡ Some m → budget_in ws ≡ Some m
budget_said ws l b n m el eb en h =
    ap (λ (x : List ℕ). budget x (word_at 2 ws) (word_at 3 ws)) (sym el) ∙ ap (λ (x : List ℕ). budget l x (word_at 3 ws)) (sym eb) ∙ ap (λ (x : List ℕ). budget l b x) (sym en) ∙ h

-- a line that is no rule is refused as one
pub rule_refused : (ws : Words) (e : RuleError) → (IsErrOf {T = Rule} (Err e) faults.Fault → (rule : Rule) → ¬ IsRule ws rule) → Refuses names.Rule ws (rule_fault e)
rule_refused ws faults.Memory h = tt
rule_refused ws faults.Fault h = (refl, h refl)
