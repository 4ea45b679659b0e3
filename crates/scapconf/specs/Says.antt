use Rattle.std.specs.Prelude.{◌≡◌, ℕ, ◌≤◌, Bool, List, [], ◌∷◌, length, drop, map, filter, codes, Some, IsSomeAnd, MatchOption}
use Rattle.std.specs.List.{AllZip}
use Rattle.std.specs.Str.Lines.{lines}
use Rattle.capfilter.specs.Faults as filters
use Rattle.handler.specs.Grammar.{IsRule}
use Rattle.cutclass.specs.declared.class_rule.ClassRule.{ClassRule}
use Rattle.cutclass.specs.declared.cut.Cut.{Cut}
use Rattle.cutclass.specs.declared.cutoffs.Cutoffs.{Cutoffs}
use Rattle.overpolicy.specs.declared.shape.Shape.{Shape}
use Rattle.scapconf.specs.declared.key.Key.{Key}
use Rattle.scapconf.specs.declared.key.Key.TheVariants as keys
use Rattle.scapconf.specs.declared.size.Size.{Size}
use Rattle.scapconf.specs.declared.size.Size.TheVariants.{Chunk, Overlap, Reorder}
use Rattle.scapconf.specs.declared.time.Time.{Time}
use Rattle.scapconf.specs.declared.time.Time.TheVariants.{Flush, Hole, Idle}
use Rattle.scapconf.specs.declared.place.Place.{Place}
use Rattle.scapconf.specs.declared.place.Place.TheVariants.{Default, Fore, Back}
use Rattle.scapconf.specs.declared.settings.Settings.{Settings}
use Rattle.linewords.specs.Words.{Words, word_at}
use Rattle.scapconf.specs.Lines.{said, joined}
use Rattle.scapconf.specs.Names.{heading, words_eq, line_with, head}
use Rattle.scapconf.specs.Values.{mode, policy, size, time, cutoff, class_cut, class_priority}
use Rattle.scapconf.specs.Faults.{budget_in, AreClean, longest}
use Rattle.scapconf.specs.Defaults.{default_settings}

-- What a text without fault says: docs/FORMATS.md, "Settings".

abbrev pub size_of : Size → Shape → ℕ
size_of Chunk shape = shape.chunk
size_of Overlap shape = shape.overlap
size_of Reorder shape = shape.reorder

abbrev pub time_of : Time → Shape → ℕ
time_of Flush shape = shape.flush
time_of Hole shape = shape.hole
time_of Idle shape = shape.idle

abbrev pub cutoff_of : Place → Cutoffs → Cut
cutoff_of Default c = c.default
cutoff_of Fore c = c.fore
cutoff_of Back c = c.back

-- what is set has its default
abbrev pub IsDefault : Key → Settings → Type 0
IsDefault keys.Mode s = s.set.shape.mode ≡ default_settings.set.shape.mode
IsDefault keys.Policy s = s.set.shape.policy ≡ default_settings.set.shape.policy
IsDefault (keys.Size size) s = size_of size s.set.shape ≡ size_of size default_settings.set.shape
IsDefault (keys.Time time) s = time_of time s.set.shape ≡ time_of time default_settings.set.shape
IsDefault keys.Filter s = s.filter ≡ default_settings.filter
IsDefault (keys.Cutoff p) s = cutoff_of p s.set.cutoffs ≡ cutoff_of p default_settings.set.cutoffs
IsDefault keys.Budget s = s.set.marks ≡ default_settings.set.marks

-- what is set is what the words of its line stand for
abbrev pub IsValue : Key → Words → Settings → Type 0
IsValue keys.Mode ws s = mode (word_at 1 ws) ≡ Some s.set.shape.mode
IsValue keys.Policy ws s = policy (word_at 1 ws) ≡ Some s.set.shape.policy
IsValue (keys.Size which) ws s = size which (word_at 1 ws) ≡ Some (size_of which s.set.shape)
IsValue (keys.Time which) ws s = time which (word_at 1 ws) ≡ Some (time_of which s.set.shape)
IsValue keys.Filter ws s = IsSomeAnd s.filter (filters.Reads (joined (drop 1 ws)))
IsValue (keys.Cutoff p) ws s = cutoff (word_at 2 ws) ≡ Some (cutoff_of p s.set.cutoffs)
IsValue keys.Budget ws s = budget_in ws ≡ Some s.set.marks

-- a class is what the words of its line stand for
pub record IsClass (ws : Words) (rule : ClassRule) : Type 0 where
  pub priority : class_priority (word_at 1 ws) ≡ Some rule.priority
  pub cut : class_cut (word_at 2 ws) ≡ Some rule.cut
  pub filter : filters.Reads (joined (drop 3 ws)) rule.filter

abbrev pub begins : List ℕ → Words → Bool
begins word ws = words_eq (heading ws) (word ∷ [])

-- the settings that lines say: each has the value of the line with its heading, and its default where there is none; the
-- classes are those of the class lines, and the rules those of the rule lines, in order
pub record Says (ls : List Words) (s : Settings) : Type 0 where
  pub once : (key : Key) → MatchOption (line_with (head key) ls) (IsDefault key s) (λ ws. IsValue key ws s)
  pub classes : AllZip IsClass (filter (begins (codes "class")) ls) s.set.cutoffs.classes
  pub rules : AllZip IsRule (filter (begins (codes "rule")) ls) s.rules

-- the settings of a text, which has no fault
pub record Reads (text : List ℕ) (s : Settings) : Type 0 where
  pub short : length text ≤ longest
  pub clean : AreClean (lines text)
  pub says : Says (map said (lines text)) s
