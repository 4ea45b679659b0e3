use Rattle.std.proofs.Common.{◌≡◌, ℕ, List, drop, Some, None, Result, Ok, Err, MatchResult, IfOk, refl, sym, ◌∙◌, ap, subst}
use Rattle.std.specs.Result.{IsErrOf}
use Rattle.evring.specs.declared.advice.Advice.{Advice}
use Rattle.evring.specs.Advice.{no_advice}
use Rattle.linewords.specs.Words.{Words, words}
use Rattle.handler.specs.declared.condition.Condition.{Condition}
use Rattle.handler.specs.declared.rule.Rule.{Rule}
use Rattle.handler.specs.Parts.{condition_words, is_of_data}
use Rattle.handler.specs.declared.rule_error.RuleError.{RuleError}
use Rattle.handler.specs.declared.rule_error.RuleError.TheVariants as errors
use Rattle.handler.specs.Reader.{condition_in, IsMemoryOr}
use Rattle.handler.specs.Grammar.{IsRule, Reads, SaysSome}
use Rattle.handler.proofs.ReadLemmas.{condition_is, condition_read}
use Rattle.handler.proofs.AdviceLemmas.{one_advice}

-- Whole rules.

some_is : {A : Type 0} (x y : A) → Some x ≡ Some y → x ≡ y
some_is x y h = cc

-- what a rule of these words has
read_rule : {B : Type 0} (ws : Words) (rule : Rule) → IsRule ws rule
    → (condition_in ws ≡ Some rule.condition → SaysSome (is_of_data rule.condition) (drop (condition_words rule.condition) ws) rule.advice → B) → B
read_rule ws rule h then =
    let read = condition_read rule.condition ws h.behind h.condition in
    then read.0 (subst (λ (r : Words). SaysSome (is_of_data rule.condition) r rule.advice) read.1 h.advice)

-- a condition that was read, and advice behind it
pub rule_is : (ws : Words) (rule : Rule) → condition_in ws ≡ Some rule.condition → SaysSome (is_of_data rule.condition) (drop (condition_words rule.condition) ws) rule.advice → IsRule ws rule
rule_is ws rule h s = record { behind = drop (condition_words rule.condition) ws; condition = condition_is ws rule.condition h; advice = s }

pub no_condition : (ws : Words) (rule : Rule) → condition_in ws ≡ None → ¬ IsRule ws rule
no_condition ws rule h is = read_rule ws rule is (λ read says. let e : None ≡ Some rule.condition = sym h ∙ read in cc)

pub no_advice_behind : (ws : Words) (c : Condition) (rule : Rule) → condition_in ws ≡ Some c
    → ((advice : Advice) → ¬ SaysSome (is_of_data c) (drop (condition_words c) ws) advice) → ¬ IsRule ws rule
no_advice_behind ws c rule h none is =
    read_rule ws rule is (λ read says.
    none rule.advice (subst (λ (d : Condition). SaysSome (is_of_data d) (drop (condition_words d) ws) rule.advice) (some_is rule.condition c (sym read ∙ h)) says))

-- want of memory stays free
pub memory_or : {P Q : Type 0} (e : RuleError) → (P → Q) → IsMemoryOr P e → IsMemoryOr Q e
memory_or errors.Memory f h = tt
memory_or errors.Fault f h = f h

abbrev made : Condition → Advice → Rule
made condition advice = record { condition = condition; advice = advice }

-- words are one rule
pub one_rule : (ws : Words) (r s : Rule) → IsRule ws r → IsRule ws s → r ≡ s
one_rule ws r s h g =
    read_rule ws r h (λ read says. read_rule ws s g (λ other told.
    let same : r.condition ≡ s.condition = some_is r.condition s.condition (sym read ∙ other) in
    let moved = subst (λ (d : Condition). SaysSome (is_of_data d) (drop (condition_words d) ws) r.advice) same says in
    let advised : r.advice ≡ s.advice = one_advice (is_of_data s.condition) no_advice (drop (condition_words s.condition) ws) r.advice s.advice moved.says told.says in
    ap (λ (c : Condition). made c r.advice) same ∙ ap (λ (a : Advice). made s.condition a) advised))

-- What is answered of a line.

abbrev pub IsReadAs : List ℕ → Result Rule RuleError → Type 0
IsReadAs line r = MatchResult r (IsRule (words line)) (IsMemoryOr ((rule : Rule) → ¬ IsRule (words line) rule))

pub is_parsed : (line : List ℕ) (r : Result Rule RuleError) → IsReadAs line r → IfOk r (Reads line)
is_parsed line (Ok rule) h = h
is_parsed line (Err error) h = tt

pub is_the_only : (line : List ℕ) (r : Result Rule RuleError) → IsReadAs line r → (rule : Rule) → Reads line rule → MatchResult r (λ parsed. parsed ≡ rule) (λ error. error ≡ errors.Memory)
is_the_only line (Ok parsed) h rule is = one_rule (words line) parsed rule h is
is_the_only line (Err errors.Memory) h rule is = refl
is_the_only line (Err errors.Fault) h rule is = absurd (h rule is)

pub is_refused : (line : List ℕ) (r : Result Rule RuleError) → IsReadAs line r → IsErrOf r errors.Fault → (rule : Rule) → ¬ Reads line rule
is_refused line (Ok parsed) h e rule is = absurd (cc)
is_refused line (Err errors.Memory) h e rule is = absurd (cc)
is_refused line (Err errors.Fault) h e rule is = h rule is
