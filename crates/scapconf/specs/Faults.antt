use Rattle.std.specs.Prelude.{◌≡◌, ℕ, ◌+◌, ◌<◌, ◌≤◌, ◌⊎◌, Bool, true, false, ◌&&◌, not, List, [], ◌∷◌, length, take, drop, map, slice_index_or, Option, Some, MatchOption, is_some, nat_eq, nat_le, count_by}
use Rattle.std.specs.Str.Lines.{lines}
use Rattle.capfilter.specs.declared.filter_error.FilterFault.{FilterFault}
use Rattle.capfilter.specs.Faults as filters
use Rattle.prio_budget.specs.declared.mark_fault.MarkFault.{MarkFault}
use Rattle.prio_budget.specs.MarkParts.{MarkParts}
use Rattle.prio_budget.specs.Marks.{IsFirstFault}
use Rattle.handler.specs.declared.rule.Rule.{Rule}
use Rattle.handler.specs.Grammar.{IsRule}
use Rattle.scapconf.specs.declared.limits.TheConstants.{LONGEST_TEXT, MOST_RULES}
use Rattle.scapconf.specs.declared.name.Name.{Name}
use Rattle.scapconf.specs.declared.name.Name.TheVariants as names
use Rattle.scapconf.specs.declared.settings_error.SettingsKind.{SettingsKind}
use Rattle.scapconf.specs.declared.settings_error.SettingsKind.TheVariants as kinds
use Rattle.linewords.specs.Words.{Words, word_at}
use Rattle.scapconf.specs.Lines.{is_text, said, joined}
use Rattle.scapconf.specs.Names.{name, name_in, stands_once, heading, words_eq, line_with, place}
use Rattle.scapconf.specs.Values.{mode, policy, size, time, cutoff, class_cut, class_priority, budget}

-- Which texts are refused, and why: docs/FORMATS.md, "Settings".

-- how many words a line of that name has
abbrev pub count_fits : Name → ℕ → Bool
count_fits names.Mode n = nat_eq n 2
count_fits names.Policy n = nat_eq n 2
count_fits (names.Size size) n = nat_eq n 2
count_fits (names.Time time) n = nat_eq n 2
count_fits names.Filter n = nat_le 2 n
count_fits names.Cutoff n = nat_eq n 3
count_fits names.Class n = nat_le 4 n
count_fits names.Budget n = nat_eq n 4
count_fits names.Rule n = nat_le 2 n

abbrev pub budget_in : Words → Option MarkParts
budget_in ws = budget (word_at 1 ws) (word_at 2 ws) (word_at 3 ws)

-- the words behind the first are words of such a line, and its numbers are in range
abbrev pub are_values : Name → Words → Bool
are_values names.Mode ws = is_some (mode (word_at 1 ws))
are_values names.Policy ws = is_some (policy (word_at 1 ws))
are_values (names.Size s) ws = is_some (size s (word_at 1 ws))
are_values (names.Time t) ws = is_some (time t (word_at 1 ws))
are_values names.Filter ws = true
are_values names.Cutoff ws = is_some (place (word_at 1 ws)) && is_some (cutoff (word_at 2 ws))
are_values names.Class ws = is_some (class_priority (word_at 1 ws)) && is_some (class_cut (word_at 2 ws))
are_values names.Budget ws = is_some (budget_in ws)
are_values names.Rule ws = true

-- the budget that a line says has a fault
abbrev pub IsNoBudget : Name → Words → Type 0
IsNoBudget names.Budget ws = (m : MarkParts) × (fault : MarkFault) × (budget_in ws ≡ Some m) × IsFirstFault m.limit m.base m.count fault
IsNoBudget names.Mode ws = ⊥
IsNoBudget names.Policy ws = ⊥
IsNoBudget (names.Size size) ws = ⊥
IsNoBudget (names.Time time) ws = ⊥
IsNoBudget names.Filter ws = ⊥
IsNoBudget names.Cutoff ws = ⊥
IsNoBudget names.Class ws = ⊥
IsNoBudget names.Rule ws = ⊥

-- an expression has a fault
abbrev pub IsNoExpression : List ℕ → Type 0
IsNoExpression text = (fault : FilterFault) × filters.IsFault text fault

-- the expression that a line says has a fault: it is the rest of the line
abbrev pub IsNoFilter : Name → Words → Type 0
IsNoFilter names.Filter ws = IsNoExpression (joined (drop 1 ws))
IsNoFilter names.Class ws = IsNoExpression (joined (drop 3 ws))
IsNoFilter names.Mode ws = ⊥
IsNoFilter names.Policy ws = ⊥
IsNoFilter (names.Size size) ws = ⊥
IsNoFilter (names.Time time) ws = ⊥
IsNoFilter names.Cutoff ws = ⊥
IsNoFilter names.Budget ws = ⊥
IsNoFilter names.Rule ws = ⊥

-- the words of a line are no rule
abbrev pub IsNoRule : Name → Words → Type 0
IsNoRule names.Rule ws = (rule : Rule) → ¬ IsRule ws rule
IsNoRule names.Mode ws = ⊥
IsNoRule names.Policy ws = ⊥
IsNoRule (names.Size size) ws = ⊥
IsNoRule (names.Time time) ws = ⊥
IsNoRule names.Filter ws = ⊥
IsNoRule names.Cutoff ws = ⊥
IsNoRule names.Class ws = ⊥
IsNoRule names.Budget ws = ⊥

-- something is true of the name of a line, which has one
abbrev pub Named : (Name → Type 0) → Words → Type 0
Named P ws = MatchOption (name_in ws) ⊥ P

-- a first word is no name
abbrev pub IsUnknown : Words → Type 0
IsUnknown [] = ⊥
IsUnknown (w ∷ ws) = is_some (name w) ≡ false

-- an earlier line says the same, which a text may say once
abbrev pub is_repeated : List Words → Name → Words → Bool
is_repeated before name ws = stands_once name && is_some (line_with (heading ws) before)

-- the most classes (those of cutclass are as many), and the most rules
abbrev pub most : ℕ
most = MOST_RULES

-- as many classes or rules as there may be stand before
abbrev pub is_one_too_many : List Words → Name → Words → Bool
is_one_too_many before name ws = not (stands_once name) && nat_le most (count_by (λ earlier. words_eq (heading earlier) (heading ws)) before)

-- a line has a fault of a kind, behind lines that say these words
abbrev pub Has : List Words → List ℕ → SettingsKind → Type 0
Has before line kinds.Long = ⊥
Has before line kinds.Text = is_text line ≡ false
Has before line kinds.Word = IsUnknown (said line)
Has before line kinds.Repeated = Named (λ name. is_repeated before name (said line) ≡ true) (said line)
Has before line kinds.Many = Named (λ name. is_one_too_many before name (said line) ≡ true) (said line)
Has before line kinds.Count = Named (λ name. count_fits name (length (said line)) ≡ false) (said line)
Has before line kinds.Number = Named (λ name. are_values name (said line) ≡ false) (said line)
Has before line kinds.Budget = Named (λ name. IsNoBudget name (said line)) (said line)
Has before line kinds.Filter = Named (λ name. IsNoFilter name (said line)) (said line)
Has before line kinds.Rule = Named (λ name. IsNoRule name (said line)) (said line)

-- the order in which the faults of a line are looked for
abbrev pub rank : SettingsKind → ℕ
rank kinds.Long = 0
rank kinds.Text = 1
rank kinds.Word = 2
rank kinds.Repeated = 3
rank kinds.Many = 4
rank kinds.Count = 5
rank kinds.Number = 6
rank kinds.Budget = 7
rank kinds.Filter = 8
rank kinds.Rule = 9

-- the fault of a line is the first that it has
pub record IsFaultOf (before : List Words) (line : List ℕ) (kind : SettingsKind) : Type 0 where
  pub has : Has before line kind
  pub first : (other : SettingsKind) → rank other < rank kind → ¬ Has before line other

abbrev pub IsClean : List Words → List ℕ → Type 0
IsClean before line = (kind : SettingsKind) → ¬ Has before line kind

abbrev pub line_at : ℕ → List (List ℕ) → List ℕ
line_at i ls = slice_index_or ls i []

-- no line has a fault
abbrev pub AreClean : List (List ℕ) → Type 0
AreClean ls = (i : ℕ) → i < length ls → IsClean (map said (take i ls)) (line_at i ls)

-- the first line that has a fault, by its number from 1, and its fault
pub record IsFaultAt (ls : List (List ℕ)) (number : ℕ) (kind : SettingsKind) : Type 0 where
  pub at : ℕ
  pub within : at < length ls
  pub number_is : number ≡ at + 1
  pub clean : AreClean (take at ls)
  pub fault : IsFaultOf (map said (take at ls)) (line_at at ls) kind

-- the most bytes of a text
abbrev pub longest : ℕ
longest = LONGEST_TEXT

-- the fault of a text: it is too long, or that of its first line that has one
abbrev pub IsFault : List ℕ → ℕ → SettingsKind → Type 0
IsFault text number kind =
    ((longest < length text) × (number ≡ 0) × (kind ≡ kinds.Long)) ⊎ ((length text ≤ longest) × IsFaultAt (lines text) number kind)
