use Rattle.std.specs.Prelude.{ℕ, ◌≡◌, ◌⊎◌, List, [], ◌∷◌, Option}
use Rattle.capfilter.specs.Expr.{Expr}
use Rattle.capfilter.specs.Faults.{IsFault, Reads}
use Rattle.capfilter.specs.declared.filter_error.FilterFault.{FilterFault}
use Rattle.scap_world.specs.Files.{File, file_of}
use Rattle.scapconf.specs.declared.settings_error.SettingsKind.TheVariants as kinds
use Rattle.scapconf.specs.declared.status.Status.{Status}
use Rattle.scapconf.specs.declared.status.Status.TheVariants.{Memory, Settings as Faulty, ReadFault}
use Rattle.labtop.specs.Kinds as kind
use Rattle.labtop.specs.Kinds.{MayBe}
use Rattle.labtop.specs.Matching.{matched_of, AllowsMatch, CompletesMatch, LeavesMatch, WritesMatch}

-- docs/RULES.md, "Matches" and "Answers".

-- something holds of the filter that a text is
abbrev pub Reading : List ℕ → (Expr → Type 0) → Type 0
Reading text P = (e : Expr) × Reads text e × P e

-- the text is no filter
abbrev pub HasNoFilter : List ℕ → Type 0
HasNoFilter text = (fault : FilterFault) × IsFault text fault

-- the status of a text that is no filter: it stands in no line
abbrev pub no_filter : Status
no_filter = Faulty 0 kinds.Filter

-- a status in place of a filter
abbrev pub RefusesFilter : List ℕ → Status → Type 0
RefusesFilter text s = (s ≡ Memory) ⊎ ((s ≡ no_filter) × HasNoFilter text)

-- the statuses of a match, whatever its files hold: the fault of its filter, or want of memory, or for what is a filter one of
-- the others
abbrev pub IsOfMatch : List ℕ → Status → Type 0
IsOfMatch filter (Faulty line fault) = (line ≡ 0) × (fault ≡ kinds.Filter) × HasNoFilter filter
IsOfMatch filter Memory = Unit {0}
IsOfMatch filter s = Reading filter (λ _.
    MayBe (kind.done ∷ kind.read_fault ∷ kind.write_fault ∷ kind.not_pcap ∷ kind.bad_record ∷ kind.cut_short ∷ kind.too_long ∷ []) s)

-- the answer of a match: the fault of its filter, or what the filter and the capture ask for
abbrev pub IsMatchAnswer : List File → (filter capture : List ℕ) → Status → Type 0
IsMatchAnswer files filter capture Memory = Unit {0}
IsMatchAnswer files filter capture ReadFault = Unit {0}
IsMatchAnswer files filter capture (Faulty line fault) = (line ≡ 0) × (fault ≡ kinds.Filter) × HasNoFilter filter
IsMatchAnswer files filter capture s = Reading filter (λ e. AllowsMatch (matched_of e (file_of files capture)) s)

-- the file is whole
abbrev pub IsWritten : List File → (filter capture out : List ℕ) → Option (List File) → Option (List File) → Type 0
IsWritten files filter capture out old new = Reading filter (λ e. WritesMatch (matched_of e (file_of files capture)) out old new)

-- the files after a match, whatever its status
abbrev pub LeavesMatched : List File → (filter capture out : List ℕ) → Option (List File) → Option (List File) → Type 0
LeavesMatched files filter capture out old new = (new ≡ old) ⊎ Reading filter (λ e. LeavesMatch (matched_of e (file_of files capture)) out old new)

-- where no fault was counted: for the filter that the text is, the capture's own status, or there was no memory
abbrev pub CompletesMatched : List File → (filter capture : List ℕ) → Status → Type 0
CompletesMatched files filter capture s = (e : Expr) → Reads filter e → CompletesMatch (matched_of e (file_of files capture)) s
