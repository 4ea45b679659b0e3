-- docs/RULES.md, "Settings".
use Rattle.std.specs.Prelude.{◌≡◌, ℕ, Bool, true, false, ◌&&◌, nat_eq, List, [], ◌∷◌, length, Option, Some, None, if◌then◌else◌, IsSomeAnd}
use Rattle.capfilter.specs.Truth.{truth}
use Rattle.cutclass.specs.InForce.{Class}
use Rattle.cutclass.specs.declared.class_rule.ClassRule.{ClassRule}
use Rattle.cutclass.specs.declared.cut.Cut.{Cut}
use Rattle.cutclass.specs.declared.cut.Cut.TheVariants.{Unset, Endless, At}
use Rattle.cutclass.specs.declared.cutoffs.Cutoffs.{Cutoffs}
use Rattle.datagrams.specs.Capture.{marks_of}
use Rattle.scap_world.specs.Files.{File, file_of}
use Rattle.scapconf.specs.declared.settings.Settings.{Settings}
use Rattle.scapconf.specs.declared.settings_error.SettingsKind.{SettingsKind}
use Rattle.scapconf.specs.Defaults.{default_settings}
use Rattle.scapconf.specs.Faults.{IsFault}
use Rattle.scapconf.specs.Says.{Reads}
use Rattle.streamdefs.specs.Terms.{Terms}
use Rattle.streamkey.specs.declared.key.Key.{Key}
use Rattle.streamkey.specs.declared.toward.Toward.{Toward}

-- the class of a conversation: the first whose filter holds of its first packet
abbrev pub class_in : List ClassRule → Key → Toward → Option Class
class_in [] key toward = None
class_in (rule ∷ rules) key toward =
    if truth rule.filter key toward then Some (record { priority = rule.priority; cutoff = rule.cut }) else class_in rules key toward

-- the settings of streams
abbrev pub terms_of : Settings → Terms
terms_of s = record {
  mode = s.set.shape.mode;
  policy = s.set.shape.policy;
  chunk = s.set.shape.chunk;
  overlap = s.set.shape.overlap;
  flush = s.set.shape.flush;
  hole = s.set.shape.hole;
  reorder = s.set.shape.reorder;
  idle = s.set.shape.idle;
  default = s.set.cutoffs.default;
  cutoffs = record { fore = s.set.cutoffs.fore; back = s.set.cutoffs.back };
  class = λ key toward. class_in s.set.cutoffs.classes key toward;
  marks = marks_of s.set.marks;
}

abbrev pub is_unset : Cut → Bool
is_unset Unset = true
is_unset Endless = false
is_unset (At position) = false

abbrev pub is_without_classes : List ClassRule → Bool
is_without_classes [] = true
is_without_classes (rule ∷ rules) = false

abbrev pub is_without_cutoffs : Cutoffs → Bool
is_without_cutoffs c = is_unset c.default && is_unset c.fore && is_unset c.back && is_without_classes c.classes

-- the settings that are built: no copies of last bytes, no flush, no cutoffs, classes or rules
abbrev pub is_built : Settings → Bool
is_built s = nat_eq s.set.shape.overlap 0 && nat_eq s.set.shape.flush 0 && is_without_cutoffs s.set.cutoffs && nat_eq (length s.rules) 0

-- the settings that a drill goes by: the defaults, or what the text of a file says
abbrev pub GoesBy : List File → Option (List ℕ) → Settings → Type 0
GoesBy files None s = s ≡ default_settings
GoesBy files (Some name) s = IsSomeAnd (file_of files name) (λ text. Reads text s)

-- settings that a drill may go by, whatever its files hold: the defaults, or what some text says
abbrev pub MayGoBy : Option (List ℕ) → Settings → Type 0
MayGoBy None s = s ≡ default_settings
MayGoBy (Some name) s = (text : List ℕ) × Reads text s

-- the text of that file has its fault in that line
abbrev pub HasFault : List File → Option (List ℕ) → ℕ → SettingsKind → Type 0
HasFault files None line kind = ⊥
HasFault files (Some name) line kind = IsSomeAnd (file_of files name) (λ text. IsFault text line kind)
