use Rattle.std.proofs.Common.{◌≡◌, Bool, false, cond, List, [], ◌∷◌, Option, Some, None, find, refl, ◌∙◌, ap}
use Rattle.std.specs.Option.{option_map_or}
use Rattle.evring.specs.declared.reason.Reason.{Reason}
use Rattle.evring.specs.Advice.{no_advice}
use Rattle.streamdefs.specs.Convo.Seen.{Over}
use Rattle.handler.specs.declared.condition.Condition.{Condition}
use Rattle.handler.specs.declared.condition.Condition.TheVariants.{New, Data}
use Rattle.handler.specs.declared.rule.Rule.{Rule}
use Rattle.handler.specs.Truth.{fits, advice_by}

-- No rule speaks of an end.

no_fit : (c : Condition) (reason : Reason) → fits c (Over reason) ≡ false
no_fit (New test) reason = refl
no_fit (Data test) reason = refl

none_found : (rules : List Rule) (reason : Reason) → find (λ rule. fits rule.condition (Over reason)) rules ≡ None
none_found [] reason = refl
none_found (rule ∷ rules) reason =
    ap (λ (b : Bool). cond b (Some rule) (find (λ r. fits r.condition (Over reason)) rules)) (no_fit rule.condition reason) ∙ none_found rules reason

pub no_advice_at_ends : (rules : List Rule) (reason : Reason) → advice_by rules (Over reason) ≡ no_advice
no_advice_at_ends rules reason = ap (λ (o : Option Rule). option_map_or (λ rule. rule.advice) o no_advice) (none_found rules reason)
