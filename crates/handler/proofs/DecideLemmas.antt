use Rattle.std.proofs.Common.{◌≡◌, ◌≤◌, ◌<◌, ◌⊎◌, ℕ, zero, suc, Bool, true, false, [], ◌∷◌, length, drop, Option, Some, None, refl, ap, subst, arith, inl, inr, length-drop}
use Rattle.evring.specs.declared.advice.Advice.{Advice}
use Rattle.evring.specs.Advice.{no_advice}
use Rattle.linewords.specs.Words.{Words, word_at}
use Rattle.handler.specs.declared.condition.Condition.{Condition}
use Rattle.handler.specs.declared.part.Part.{Part}
use Rattle.handler.specs.declared.part.Part.TheVariants.{Keep, Discard, Cutoff, Priority}
use Rattle.handler.specs.declared.rule.Rule.{Rule}
use Rattle.handler.specs.Parts.{condition_words, is_fresh, is_of_data, part_words, with_part}
use Rattle.handler.specs.Reader.{condition_in, part}
use Rattle.handler.specs.Grammar.{IsRule, SaysAdvice}
use Rattle.handler.proofs.AdviceLemmas.{says_nothing, says_more, says_less, no_part}
use Rattle.handler.proofs.RuleLemmas.{rule_is, no_condition, no_advice_behind}

-- Words are a rule or none.

abbrev IsDecided : Bool → Advice → Words → Type 0
IsDecided d a ws = ((x : Advice) × SaysAdvice d a ws x) ⊎ ((x : Advice) → ¬ SaysAdvice d a ws x)

some_words : (p : Part) → 1 ≤ part_words p
some_words Keep = omega arith
some_words Discard = omega arith
some_words (Cutoff n) = omega arith
some_words (Priority n) = omega arith

fewer : (p : Part) (ws : Words) (m : ℕ) → 0 < length ws → length ws ≤ suc m → length (drop (part_words p) ws) ≤ m
fewer p ws m some le =
    let one = some_words p in
    let e = length-drop (part_words p) ws in
    omega arith

module _ (d : Bool) (a : Advice) (ws : Words) (m : ℕ) (some : 0 < length ws) (le : length ws ≤ suc m) (more : (b : Advice) (vs : Words) → length vs ≤ m → IsDecided d b vs) where
  behind_part : (p : Part) → part (word_at 0 ws) (word_at 1 ws) ≡ Some p → is_fresh d p a ≡ true → IsDecided d (with_part p a) (drop (part_words p) ws) → IsDecided d a ws
  behind_part p h fresh (inl s) = inl (s.0, says_more d a ws p s.0 h fresh s.1)
  behind_part p h fresh (inr none) = inr (λ x s. let less = says_less d a ws p x some h s in none x less.1)

  by_fresh : (p : Part) (b : Bool) → part (word_at 0 ws) (word_at 1 ws) ≡ Some p → is_fresh d p a ≡ b → IsDecided d a ws
  by_fresh p true h fresh = behind_part p h fresh (more (with_part p a) (drop (part_words p) ws) (fewer p ws m some le))
  by_fresh p false h stale = inr (λ x s. let less = says_less d a ws p x some h s in let fresh = less.0 in cc)

  by_part : (o : Option Part) → part (word_at 0 ws) (word_at 1 ws) ≡ o → IsDecided d a ws
  by_part None none = inr (λ x s. no_part d a ws x some none s)
  by_part (Some p) h = by_fresh p (is_fresh d p a) h refl

advice_decided : (n : ℕ) (d : Bool) (a : Advice) (ws : Words) → length ws ≤ n → IsDecided d a ws
advice_decided n d a [] le = inl (a, says_nothing d a [] refl)
advice_decided zero d a (w ∷ ws) le = absurd (omega arith)
advice_decided (suc m) d a (w ∷ ws) le = by_part d a (w ∷ ws) m (omega arith) le (λ b vs h. advice_decided m d b vs h) _ refl

abbrev IsRuleOrNone : Words → Type 0
IsRuleOrNone ws = ((rule : Rule) × IsRule ws rule) ⊎ ((rule : Rule) → ¬ IsRule ws rule)

by_advice : (ws : Words) (c : Condition) (vs : Words) → condition_in ws ≡ Some c → vs ≡ drop (condition_words c) ws → IsDecided (is_of_data c) no_advice (drop (condition_words c) ws) → IsRuleOrNone ws
by_advice ws c [] h e (inl s) = inr (λ rule. no_advice_behind ws c rule h (λ x says. let none : 0 ≡ length (drop (condition_words c) ws) = ap length e in let some = says.some in absurd (omega arith)))
by_advice ws c (v ∷ vs) h e (inl s) =
    let some : 0 < length (drop (condition_words c) ws) = subst (λ (us : Words). 0 < length us) e (omega arith) in
    inl (record { condition = c; advice = s.0 }, rule_is ws (record { condition = c; advice = s.0 }) h (record { some = some; says = s.1 }))
by_advice ws c vs h e (inr none) = inr (λ rule. no_advice_behind ws c rule h (λ x says. none x says.says))

by_condition : (ws : Words) (o : Option Condition) → condition_in ws ≡ o → IsRuleOrNone ws
by_condition ws None none = inr (λ rule. no_condition ws rule none)
by_condition ws (Some c) h = by_advice ws c _ h refl (advice_decided (length (drop (condition_words c) ws)) (is_of_data c) no_advice (drop (condition_words c) ws) (omega arith))

-- words are a rule or none
pub rule_decided : (ws : Words) → ((rule : Rule) × IsRule ws rule) ⊎ ((rule : Rule) → ¬ IsRule ws rule)
rule_decided ws = by_condition ws _ refl
