use Rattle.std.specs.Prelude.{◌≡◌, ℕ, ◌<◌, Bool, true, List, [], ◌∷◌, length, codes, Some}
use Rattle.evring.specs.declared.advice.Advice.{Advice}
use Rattle.evring.specs.Advice.{no_advice}
use Rattle.linewords.specs.Words.{Words, words}
use Rattle.handler.specs.declared.condition.NewTest.TheVariants as news
use Rattle.handler.specs.declared.condition.NewTest.{NewTest}
use Rattle.handler.specs.declared.condition.DataTest.TheVariants as datas
use Rattle.handler.specs.declared.condition.DataTest.{DataTest}
use Rattle.handler.specs.declared.condition.Condition.{Condition}
use Rattle.handler.specs.declared.condition.Condition.TheVariants.{New, Data}
use Rattle.handler.specs.declared.part.Part.{Part}
use Rattle.handler.specs.declared.part.Part.TheVariants.{Keep, Discard, Cutoff, Priority}
use Rattle.handler.specs.declared.rule.Rule.{Rule}
use Rattle.handler.specs.Values.{port, position, priority, front}
use Rattle.handler.specs.Parts.{is_of_data, is_fresh, with_part, with_parts}

-- The grammar of rules, as relations between the words of a line and what they say: docs/FORMATS.md, "Rules".

-- a word, and behind it one that stands for a value
abbrev pub IsValued : {A : Type 0} → List ℕ → (List ℕ → A → Type 0) → A → Words → Words → Type 0
IsValued name Means value ws rest = (w : List ℕ) × (ws ≡ name ∷ w ∷ rest) × Means w value

-- newcond = "any" | "port" N: some words are such a condition, and the rest stands behind it
abbrev pub IsNewTest : NewTest → Words → Words → Type 0
IsNewTest news.Any ws rest = ws ≡ codes "any" ∷ rest
IsNewTest (news.Port n) ws rest = IsValued (codes "port") (λ w v. port w ≡ Some v) n ws rest

-- datacond = "any" | "port" N | "before" N | "from" N | "begins" HEX
abbrev pub IsDataTest : DataTest → Words → Words → Type 0
IsDataTest datas.Any ws rest = ws ≡ codes "any" ∷ rest
IsDataTest (datas.Port n) ws rest = IsValued (codes "port") (λ w v. port w ≡ Some v) n ws rest
IsDataTest (datas.Before n) ws rest = IsValued (codes "before") (λ w v. position w ≡ Some v) n ws rest
IsDataTest (datas.From n) ws rest = IsValued (codes "from") (λ w v. position w ≡ Some v) n ws rest
IsDataTest (datas.Begins bytes) ws rest = IsValued (codes "begins") (λ w v. front w ≡ Some v) bytes ws rest

-- "rule" ( "new" newcond | "data" datacond )
abbrev pub IsCondition : Condition → Words → Words → Type 0
IsCondition (New test) ws rest = (behind : Words) × (ws ≡ codes "rule" ∷ codes "new" ∷ behind) × IsNewTest test behind rest
IsCondition (Data test) ws rest = (behind : Words) × (ws ≡ codes "rule" ∷ codes "data" ∷ behind) × IsDataTest test behind rest

-- advice = "keep" | "discard" | "cutoff" N | "priority" P
abbrev pub IsPart : Part → Words → Words → Type 0
IsPart Keep ws rest = ws ≡ codes "keep" ∷ rest
IsPart Discard ws rest = ws ≡ codes "discard" ∷ rest
IsPart (Cutoff n) ws rest = IsValued (codes "cutoff") (λ w v. position w ≡ Some v) n ws rest
IsPart (Priority p) ws rest = IsValued (codes "priority") (λ w v. priority w ≡ Some v) p ws rest

-- words are these parts, one behind the other
abbrev pub AreParts : List Part → Words → Type 0
AreParts [] ws = ws ≡ []
AreParts (p ∷ ps) ws = (rest : Words) × IsPart p ws rest × AreParts ps rest

-- each part says what none before it said, and `keep` stands in rules of chunks alone
abbrev pub AreFresh : Bool → Advice → List Part → Type 0
AreFresh of_data so_far [] = Unit {0}
AreFresh of_data so_far (p ∷ ps) = (is_fresh of_data p so_far ≡ true) × AreFresh of_data (with_part p so_far) ps

-- behind what was advised so far, words say this advice
pub record SaysAdvice (of_data : Bool) (so_far : Advice) (ws : Words) (advice : Advice) : Type 0 where
  pub parts : List Part
  pub are : AreParts parts ws
  pub fresh : AreFresh of_data so_far parts
  pub is : advice ≡ with_parts parts so_far

-- words say an advice of one part at least
pub record SaysSome (of_data : Bool) (ws : Words) (advice : Advice) : Type 0 where
  pub some : 0 < length ws
  pub says : SaysAdvice of_data no_advice ws advice

-- words are a rule: a condition, and behind it what is advised
pub record IsRule (ws : Words) (rule : Rule) : Type 0 where
  pub behind : Words
  pub condition : IsCondition rule.condition ws behind
  pub advice : SaysSome (is_of_data rule.condition) behind rule.advice

-- the rule of a line
abbrev pub Reads : List ℕ → Rule → Type 0
Reads line rule = IsRule (words line) rule
