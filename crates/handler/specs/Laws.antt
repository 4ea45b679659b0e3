use Rattle.std.specs.Prelude.{◌≡◌, ◌⊎◌, ℕ, false, List}
use Rattle.handler.specs.declared.rule.Rule.{Rule}
use Rattle.handler.specs.Parts.{is_of_data}
use Rattle.handler.specs.Grammar.{Reads}

-- What follows from the definitions.

-- a line is a rule or none
abbrev pub IsRuleOrNone : List ℕ → Type 0
IsRuleOrNone line = ((rule : Rule) × Reads line rule) ⊎ ((rule : Rule) → ¬ Reads line rule)

abbrev pub HasOneRule : List ℕ → Type 0
HasOneRule line = (r s : Rule) → Reads line r → Reads line s → r ≡ s

abbrev pub KeepsOfChunks : List ℕ → Type 0
KeepsOfChunks line = (rule : Rule) → Reads line rule → is_of_data rule.condition ≡ false → rule.advice.keep ≡ false
