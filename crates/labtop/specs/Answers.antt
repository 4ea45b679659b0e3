use Rattle.std.specs.Prelude.{ℕ, ◌+◌, ◌≡◌, ◌≤◌, ◌⊎◌, List, [], ◌∷◌, take, Option, Some, None, IfSome}
use Rattle.histbook.specs.Moves.{IsBudgetHistory}
use Rattle.scap_world.specs.Files.{File, file_of, told_file, told_put}
use Rattle.scapconf.specs.declared.settings.Settings.{Settings}
use Rattle.scapconf.specs.Faults.{IsFault}
use Rattle.scapconf.specs.declared.limits.TheConstants.{LONGEST_TEXT}
use Rattle.scapconf.specs.declared.status.Status.{Status}
use Rattle.scapconf.specs.declared.status.Status.TheVariants.{Memory, Settings as Faulty, ReadFault, NotPcap}
use Rattle.histbook.specs.declared.journal.Journal.{Journal}
use Rattle.streamdefs.specs.Terms.{Terms}
use Rattle.labtop.specs.Headline.{IsRun, delivery_for, report_for}
use Rattle.labtop.specs.Kinds as kind
use Rattle.labtop.specs.Kinds.{MayBe}
use Rattle.labtop.specs.Names.{delivery_name, report_name}
use Rattle.labtop.specs.Scapconf.{Captured}
use Rattle.labtop.specs.Settings.{GoesBy, HasFault, MayGoBy, terms_of}
use Rattle.labtop.specs.Drill.{Verdict, Delivers, Refused, NotBuilt, Missing, asked_of}

-- docs/RULES.md, "The run" and "Answers".

-- the statuses that a verdict allows: want of memory and a fault of reading may stand in place of its own
abbrev pub Allows : Verdict → Status → Type 0
Allows verdict Memory = Unit {0}
Allows verdict ReadFault = Unit {0}
Allows (Delivers c) s = MayBe (kind.done ∷ kind.write_fault ∷ []) s
Allows (Refused fault) (NotPcap kind) = kind ≡ fault
Allows (Refused fault) s = ⊥
Allows NotBuilt s = MayBe (kind.unbuilt ∷ []) s
Allows Missing s = ⊥

-- a run that is done: its journal is lawful for the capture's packets, and its two files are the texts of the journal
abbrev pub IsDone : Terms → Verdict → List ℕ → Journal → Option (List File) → Option (List File) → Type 0
IsDone terms (Delivers c) out journal old new =
    IsRun terms c journal × (new ≡ told_put (report_name out) (report_for terms c journal) (told_put (delivery_name out) (delivery_for terms c journal) old))
IsDone terms _ out journal old new = ⊥

-- a file is as it was, or holds a front of its text
abbrev pub IsPart : List ℕ → Option (List ℕ) → Option (List ℕ) → Type 0
IsPart text old new = (new ≡ old) ⊎ ((n : ℕ) × (new ≡ Some (take n text)))

-- the report is as it was, or the deliveries are whole
abbrev pub InTurn : (text out : List ℕ) → Option (List File) → Option (List File) → Type 0
InTurn text out old new = (told_file new (report_name out) ≡ told_file old (report_name out))
    ⊎ (told_file new (delivery_name out) ≡ told_file (told_put (delivery_name out) text old) (delivery_name out))

-- each of the two files is as it was, or holds a front of its text by a journal that is lawful for the packets
pub record ArePartsOf (terms : Terms) (c : Captured) (out : List ℕ) (old new : Option (List File)) : Type 0 where
  pub journal : Journal
  pub run : IsRun terms c journal
  pub delivery : IsPart (delivery_for terms c journal) (told_file old (delivery_name out)) (told_file new (delivery_name out))
  pub report : IsPart (report_for terms c journal) (told_file old (report_name out)) (told_file new (report_name out))
  pub turn : InTurn (delivery_for terms c journal) out old new

-- the files after a run, whatever its status
abbrev pub LeavesParts : Terms → Verdict → List ℕ → Option (List File) → Option (List File) → Type 0
LeavesParts terms (Delivers c) out old new = (new ≡ old) ⊎ ArePartsOf terms c out old new
LeavesParts terms _ out old new = new ≡ old

-- the statuses that leave every file as it was
abbrev pub IsBefore : Status → Type 0
IsBefore s = MayBe (kind.usage ∷ kind.settings ∷ kind.read_fault ∷ kind.not_pcap ∷ kind.unbuilt ∷ []) s

-- the statuses of a drill behind its settings
abbrev pub IsOfDrill : Status → Type 0
IsOfDrill s = MayBe (kind.done ∷ kind.memory ∷ kind.read_fault ∷ kind.write_fault ∷ kind.not_pcap ∷ kind.unbuilt ∷ []) s

-- the statuses of a drill, whatever its files hold: a fault of settings only where a file of them is named
abbrev pub IsOfDrillBy : Option (List ℕ) → Status → Type 0
IsOfDrillBy None s = IsOfDrill s
IsOfDrillBy (Some name) s = MayBe (kind.done ∷ kind.memory ∷ kind.settings ∷ kind.read_fault ∷ kind.write_fault ∷ kind.not_pcap ∷ kind.unbuilt ∷ []) s

-- the journal is one history of a budget that never passes the limit of some settings that a drill may go by
abbrev pub HasHistory : Option (List ℕ) → Journal → Type 0
HasHistory name journal = (s : Settings) × MayGoBy name s × IsBudgetHistory s.set.marks.limit journal

-- where packets are delivered and no fault was counted, the run is done, or there was no memory
abbrev pub Completes : Verdict → Status → Type 0
Completes (Delivers c) s = MayBe (kind.done ∷ kind.memory ∷ []) s
Completes _ s = Unit {0}

-- something holds of settings that the drill goes by
abbrev pub By : List File → Option (List ℕ) → (Settings → Type 0) → Type 0
By files name P = (s : Settings) × GoesBy files name s × P s

-- the statuses in place of the settings that a text says
abbrev pub RefusesText : List ℕ → Status → Type 0
RefusesText text (Faulty line fault) = IsFault text line fault
RefusesText text s = MayBe (kind.memory ∷ []) s

-- the statuses in place of the settings that a drill goes by: of a file that is named, a fault of reading or that of its text
abbrev pub RefusesSettings : Option (List File) → Option (List ℕ) → Status → Type 0
RefusesSettings files None s = MayBe (kind.memory ∷ []) s
RefusesSettings files (Some name) (Faulty line fault) = IfSome files (λ fs. HasFault fs (Some name) line fault)
RefusesSettings files (Some name) s = MayBe (kind.memory ∷ kind.read_fault ∷ []) s

-- where the text of a file of settings has a fault, one byte more than the longest text is taken of the file
abbrev pub TakesFew : Status → Option (List ℕ) → (taken : List ℕ → ℕ) → Type 0
TakesFew (Faulty line fault) (Some name) taken = taken name ≤ LONGEST_TEXT + 1
TakesFew _ _ _ = Unit {0}

-- the answer of a drill: the fault of its settings, or what a verdict by its settings allows
abbrev pub IsAnswer : List File → Option (List ℕ) → List ℕ → Status → Type 0
IsAnswer files name capture Memory = Unit {0}
IsAnswer files name capture ReadFault = Unit {0}
IsAnswer files name capture (Faulty line fault) = HasFault files name line fault
IsAnswer files name capture s = By files name (λ t. Allows (asked_of t (file_of files capture)) s)

-- a drill that is done, by its settings
abbrev pub IsDoneBy : List File → Option (List ℕ) → (capture out : List ℕ) → Journal → Option (List File) → Option (List File) → Type 0
IsDoneBy files name capture out journal old new = By files name (λ s. IsDone (terms_of s) (asked_of s (file_of files capture)) out journal old new)

-- the files after a drill, by its settings, whatever its status
abbrev pub LeavesBy : List File → Option (List ℕ) → (capture out : List ℕ) → Option (List File) → Option (List File) → Type 0
LeavesBy files name capture out old new =
    (new ≡ old) ⊎ By files name (λ s. LeavesParts (terms_of s) (asked_of s (file_of files capture)) out old new)
