use Rattle.std.specs.Prelude.{◌≡◌, ℕ, ◌+◌, ◌<◌, Bool, true, false, List, [], ◌∷◌, ◌++◌, length, drop, Option, Some, None, is_some, nat_le, slice_index_or, slice_set, codes}
use Rattle.std.specs.Option.{option_map}
use Rattle.capfilter.specs.Faults as filters
use Rattle.handler.specs.declared.rule_error.RuleError.{RuleError}
use Rattle.handler.specs.declared.rule_error.RuleError.TheVariants as faults
use Rattle.handler.specs.Grammar.{IsRule}
use Rattle.cutclass.specs.declared.cut.Cut.{Cut}
use Rattle.cutclass.specs.declared.cutoffs.Cutoffs.{Cutoffs}
use Rattle.overpolicy.specs.declared.shape.Shape.{Shape}
use Rattle.scapconf.specs.declared.size.Size.{Size}
use Rattle.scapconf.specs.declared.size.Size.TheVariants.{Chunk, Overlap, Reorder}
use Rattle.scapconf.specs.declared.time.Time.{Time}
use Rattle.scapconf.specs.declared.time.Time.TheVariants.{Flush, Hole, Idle}
use Rattle.scapconf.specs.declared.place.Place.{Place}
use Rattle.scapconf.specs.declared.place.Place.TheVariants.{Default, Fore, Back}
use Rattle.scapconf.specs.declared.key.Key.{Key}
use Rattle.scapconf.specs.declared.key.Key.TheVariants as keys
use Rattle.scapconf.specs.declared.name.Name.{Name}
use Rattle.scapconf.specs.declared.name.Name.TheVariants as names
use Rattle.scapconf.specs.declared.setting.Setting.{Setting}
use Rattle.scapconf.specs.declared.setting.Setting.TheVariants.{Mode, Policy, Size as Sized, Time as Timed, Filter, Cutoff, Class, Budget, Rule}
use Rattle.scapconf.specs.declared.line_error.LineError.{LineError}
use Rattle.scapconf.specs.declared.line_error.LineError.TheVariants as errors
use Rattle.scapconf.specs.declared.settings_error.SettingsError.{SettingsError}
use Rattle.scapconf.specs.declared.settings_error.SettingsError.TheVariants as refusals
use Rattle.scapconf.specs.declared.settings_error.SettingsKind.{SettingsKind}
use Rattle.scapconf.specs.declared.settings_error.SettingsKind.TheVariants as kinds
use Rattle.scapconf.specs.declared.settings.Settings.{Settings}
use Rattle.scapconf.specs.declared.reader.Reader.{Reader}
use Rattle.linewords.specs.Words.{Words, word_at}
use Rattle.scapconf.specs.Lines.{joined}
use Rattle.scapconf.specs.Names.{line_with, head, place}
use Rattle.scapconf.specs.Values.{mode, policy, size, time, cutoff}
use Rattle.scapconf.specs.Faults.{most, budget_in, are_values, count_fits, is_repeated, is_one_too_many, IsNoBudget, IsNoFilter, IsNoRule, IsNoExpression}
use Rattle.scapconf.specs.Says.{IsClass, Says}

-- What the parser reads and keeps, joined to what the lines say.

-- what is said once by a line of that name
abbrev pub key_in : Name → Words → Option Key
key_in names.Mode ws = Some keys.Mode
key_in names.Policy ws = Some keys.Policy
key_in (names.Size which) ws = Some (keys.Size which)
key_in (names.Time which) ws = Some (keys.Time which)
key_in names.Filter ws = Some keys.Filter
key_in names.Cutoff ws = option_map (λ p. keys.Cutoff p) (place (word_at 1 ws))
key_in names.Class ws = None
key_in names.Budget ws = Some keys.Budget
key_in names.Rule ws = None

-- the place of a key among the flags of what was seen
abbrev pub index : Key → ℕ
index keys.Mode = 0
index keys.Policy = 1
index (keys.Size Chunk) = 2
index (keys.Size Overlap) = 3
index (keys.Size Reorder) = 4
index (keys.Time Flush) = 5
index (keys.Time Hole) = 6
index (keys.Time Idle) = 7
index keys.Filter = 8
index (keys.Cutoff Default) = 9
index (keys.Cutoff Fore) = 10
index (keys.Cutoff Back) = 11
index keys.Budget = 12

abbrev pub has_key : List Bool → Option Key → Bool
has_key seen None = false
has_key seen (Some key) = slice_index_or seen (index key) false

abbrev pub with_key : List Bool → Option Key → List Bool
with_key seen None = seen
with_key seen (Some key) = slice_set seen (index key) true

-- what the words of a line of that name stand for
abbrev pub Means : Name → Words → Setting → Type 0
Means name ws (Mode m) = (name ≡ names.Mode) × (mode (word_at 1 ws) ≡ Some m)
Means name ws (Policy p) = (name ≡ names.Policy) × (policy (word_at 1 ws) ≡ Some p)
Means name ws (Sized which n) = (name ≡ names.Size which) × (size which (word_at 1 ws) ≡ Some n)
Means name ws (Timed which n) = (name ≡ names.Time which) × (time which (word_at 1 ws) ≡ Some n)
Means name ws (Filter e) = (name ≡ names.Filter) × filters.Reads (joined (drop 1 ws)) e
Means name ws (Cutoff p c) = (name ≡ names.Cutoff) × (place (word_at 1 ws) ≡ Some p) × (cutoff (word_at 2 ws) ≡ Some c)
Means name ws (Class rule) = (name ≡ names.Class) × IsClass ws rule
Means name ws (Budget m) = (name ≡ names.Budget) × (budget_in ws ≡ Some m)
Means name ws (Rule rule) = (name ≡ names.Rule) × IsRule ws rule

-- what a line says was read, and it has no fault by itself
pub record IsRead (name : Name) (ws : Words) (setting : Setting) : Type 0 where
  pub means : Means name ws setting
  pub no_budget_fault : ¬ IsNoBudget name ws
  pub no_filter_fault : ¬ IsNoFilter name ws
  pub no_rule_fault : ¬ IsNoRule name ws

-- what words say is refused by themselves
abbrev pub IsWrong : Name → Words → SettingsKind → Type 0
IsWrong name ws kinds.Number = are_values name ws ≡ false
IsWrong name ws kinds.Budget = (are_values name ws ≡ true) × IsNoBudget name ws
IsWrong name ws kinds.Filter = (are_values name ws ≡ true) × IsNoFilter name ws
IsWrong name ws kinds.Rule = (are_values name ws ≡ true) × IsNoRule name ws
IsWrong name ws kinds.Long = ⊥
IsWrong name ws kinds.Text = ⊥
IsWrong name ws kinds.Word = ⊥
IsWrong name ws kinds.Repeated = ⊥
IsWrong name ws kinds.Many = ⊥
IsWrong name ws kinds.Count = ⊥

abbrev pub IsMemoryOr : (SettingsKind → Type 0) → LineError → Type 0
IsMemoryOr P errors.Memory = Unit {0}
IsMemoryOr P (errors.Fault kind) = P kind

abbrev pub Refuses : Name → Words → LineError → Type 0
Refuses name ws = IsMemoryOr (IsWrong name ws)

-- why a line that is no rule is refused
abbrev pub rule_fault : RuleError → LineError
rule_fault faults.Memory = errors.Memory
rule_fault faults.Fault = errors.Fault kinds.Rule

-- an expression is refused
abbrev pub RefusesExpression : List ℕ → LineError → Type 0
RefusesExpression text = IsMemoryOr (λ kind. (kind ≡ kinds.Filter) × IsNoExpression text)

-- a line that says something passes what its words alone don't tell
pub record IsPassed (before : List Words) (name : Name) (ws : Words) : Type 0 where
  pub once : is_repeated before name ws ≡ false
  pub few : is_one_too_many before name ws ≡ false
  pub counted : count_fits name (length ws) ≡ true

-- the fault of a line of that name, behind others
abbrev pub IsNamedFault : List Words → Name → Words → SettingsKind → Type 0
IsNamedFault before name ws kinds.Repeated = is_repeated before name ws ≡ true
IsNamedFault before name ws kinds.Many = (is_repeated before name ws ≡ false) × (is_one_too_many before name ws ≡ true)
IsNamedFault before name ws kinds.Count = (is_repeated before name ws ≡ false) × (is_one_too_many before name ws ≡ false) × (count_fits name (length ws) ≡ false)
IsNamedFault before name ws kinds.Number = IsPassed before name ws × IsWrong name ws kinds.Number
IsNamedFault before name ws kinds.Budget = IsPassed before name ws × IsWrong name ws kinds.Budget
IsNamedFault before name ws kinds.Filter = IsPassed before name ws × IsWrong name ws kinds.Filter
IsNamedFault before name ws kinds.Rule = IsPassed before name ws × IsWrong name ws kinds.Rule
IsNamedFault before name ws kinds.Long = ⊥
IsNamedFault before name ws kinds.Text = ⊥
IsNamedFault before name ws kinds.Word = ⊥

-- and none
pub record IsNamedClean (before : List Words) (name : Name) (ws : Words) : Type 0 where
  pub passed : IsPassed before name ws
  pub values : are_values name ws ≡ true
  pub no_budget_fault : ¬ IsNoBudget name ws
  pub no_filter_fault : ¬ IsNoFilter name ws
  pub no_rule_fault : ¬ IsNoRule name ws

-- The settings so far.

abbrev pub with_shape : Settings → Shape → Settings
with_shape s shape = record s { set = record s.set { shape = shape } }

abbrev pub with_cutoffs : Settings → Cutoffs → Settings
with_cutoffs s cutoffs = record s { set = record s.set { cutoffs = cutoffs } }

abbrev pub with_size : Size → ℕ → Shape → Shape
with_size Chunk n shape = record shape { chunk = n }
with_size Overlap n shape = record shape { overlap = n }
with_size Reorder n shape = record shape { reorder = n }

abbrev pub with_time : Time → ℕ → Shape → Shape
with_time Flush n shape = record shape { flush = n }
with_time Hole n shape = record shape { hole = n }
with_time Idle n shape = record shape { idle = n }

abbrev pub with_cutoff : Place → Cut → Cutoffs → Cutoffs
with_cutoff Default cut cutoffs = record cutoffs { default = cut }
with_cutoff Fore cut cutoffs = record cutoffs { fore = cut }
with_cutoff Back cut cutoffs = record cutoffs { back = cut }

-- settings with one more line's
abbrev pub applied : Setting → Settings → Settings
applied (Mode m) s = with_shape s (record s.set.shape { mode = m })
applied (Policy p) s = with_shape s (record s.set.shape { policy = p })
applied (Sized which n) s = with_shape s (with_size which n s.set.shape)
applied (Timed which n) s = with_shape s (with_time which n s.set.shape)
applied (Filter e) s = record s { filter = Some e }
applied (Cutoff p c) s = with_cutoffs s (with_cutoff p c s.set.cutoffs)
applied (Class rule) s = with_cutoffs s (record s.set.cutoffs { classes = s.set.cutoffs.classes ++ rule ∷ [] })
applied (Budget m) s = record s { set = record s.set { marks = m } }
applied (Rule rule) s = record s { rules = s.rules ++ rule ∷ [] }

-- as many classes or rules as there may be are there
abbrev pub is_full : Name → Settings → Bool
is_full names.Class s = nat_le most (length s.set.cutoffs.classes)
is_full names.Rule s = nat_le most (length s.rules)
is_full names.Mode s = false
is_full names.Policy s = false
is_full (names.Size which) s = false
is_full (names.Time which) s = false
is_full names.Filter s = false
is_full names.Cutoff s = false
is_full names.Budget s = false

abbrev pub HasRoom : Setting → Settings → Type 0
HasRoom (Class rule) s = length s.set.cutoffs.classes < most
HasRoom (Rule rule) s = Unit {0}
HasRoom (Mode m) s = Unit {0}
HasRoom (Policy p) s = Unit {0}
HasRoom (Sized which n) s = Unit {0}
HasRoom (Timed which n) s = Unit {0}
HasRoom (Filter e) s = Unit {0}
HasRoom (Cutoff p c) s = Unit {0}
HasRoom (Budget m) s = Unit {0}

-- what was read says what the lines so far say, and the flags tell what they said
pub record Stands (before : List Words) (reader : Reader) : Type 0 where
  pub says : Says before reader.settings
  pub flags : length reader.seen ≡ 13
  pub seen : (key : Key) → slice_index_or reader.seen (index key) false ≡ is_some (line_with (head key) before)
  pub places : (rest : Words) → place (word_at 0 rest) ≡ None → line_with (codes "cutoff" ∷ rest) before ≡ None

-- want of memory, or a fault of which that is true
abbrev pub IsMemoryOrFault : (ℕ → SettingsKind → Type 0) → SettingsError → Type 0
IsMemoryOrFault P refusals.Memory = Unit {0}
IsMemoryOrFault P (refusals.Fault line kind) = P line kind

-- the error of a text whose line has this one
abbrev pub error_at : ℕ → LineError → SettingsError
error_at line errors.Memory = refusals.Memory
error_at line (errors.Fault kind) = refusals.Fault line kind
