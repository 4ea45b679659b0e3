-- docs/RULES.md, "Matches".
use Rattle.std.specs.Prelude.{ℕ, ◌≡◌, ◌⊎◌, List, [], ◌∷◌, ◌++◌, Bool, false, codes, flat_map, if◌then◌else◌, Option, Some, None, Result, Ok, Err}
use Rattle.std.specs.Fmt.{decimal}
use Rattle.capfilter.specs.Expr.{Expr}
use Rattle.capfilter.specs.Truth.{truth}
use Rattle.pcapfile.specs.declared.frame.Frame.{Frame}
use Rattle.pcapfile.specs.declared.head.FileHead.{FileHead}
use Rattle.pcapfile.specs.declared.head_fault.HeadFault.{HeadFault}
use Rattle.pcapfile.specs.declared.link.Link.{Link}
use Rattle.pcapfile.specs.Capture.{End, Whole, Cut, TooBig, TooLong, Records, capture_of}
use Rattle.porthdr.specs.Kind.{Kind, Accepted, Skipped}
use Rattle.scap_world.specs.Files.{File, told_file, told_put}
use Rattle.scapconf.specs.declared.status.Status.{Status}
use Rattle.scapconf.specs.declared.status.Status.TheVariants as status
use Rattle.labtop.specs.Answers.{IsPart}
use Rattle.labtop.specs.Drill.{limits}
use Rattle.labtop.specs.Kinds as kind
use Rattle.labtop.specs.Kinds.{MayBe}
use Rattle.labtop.specs.Names.{match_name}
use Rattle.labtop.specs.Scapconf.{fates, packets_of}

-- the line of a number
abbrev pub number_line : ℕ → List ℕ
number_line n = decimal n ++ codes "\n"

-- whether a record is accepted and the filter holds of its packet
abbrev pub is_match : Expr → Kind → Bool
is_match filter (Accepted key toward seq flags declared payload) = truth filter key toward
is_match filter (Skipped why) = false

-- what a record of that number adds to the text
abbrev pub line_for : Expr → ℕ → Kind → List ℕ
line_for filter number kind = if is_match filter kind then number_line number else []

-- the file of a match: the numbers of the records whose packets the filter takes, in order, a line each
unfoldable pub match_text : Expr → Link → List Frame → List ℕ
match_text filter link frames = flat_map (λ p. number_line p.number) (packets_of (fates (Some filter) link frames))

-- how a match ends, by how the capture ends
abbrev pub status_of_end : End → Status
status_of_end Whole = status.Done
status_of_end (Cut bytes) = status.CutShort bytes
status_of_end (TooBig at len) = status.BadRecord at len
status_of_end TooLong = status.TooLong

-- what a filter and a capture ask for: a file with that text and then that status; a refusal; or there is no capture
pub data Matched : Type 0 where
  Writes : (text : List ℕ) (end : Status) → Matched
  Refuses : HeadFault → Matched
  Unread : Matched

abbrev pub matched_by : Expr → Result (FileHead × Records) HeadFault → Matched
matched_by filter (Err fault) = Refuses fault
matched_by filter (Ok capture) = Writes (match_text filter capture.0.link capture.1.frames) (status_of_end capture.1.end)

unfoldable pub matched_in : Expr → List ℕ → Matched
matched_in filter bytes = matched_by filter (capture_of limits bytes)

-- by the capture's bytes, where it is there
abbrev pub matched_of : Expr → Option (List ℕ) → Matched
matched_of filter None = Unread
matched_of filter (Some bytes) = matched_in filter bytes

-- the statuses behind which the file is whole
abbrev pub IsEnd : Status → Type 0
IsEnd s = MayBe (kind.done ∷ kind.bad_record ∷ kind.cut_short ∷ kind.too_long ∷ []) s

-- the statuses that no match has
abbrev pub IsForeign : Status → Type 0
IsForeign s = MayBe (kind.usage ∷ kind.settings ∷ kind.unbuilt ∷ []) s

-- the statuses that are allowed: want of memory and a fault of reading may stand in place of the capture's own, and a fault of
-- writing where a file is written
abbrev pub AllowsMatch : Matched → Status → Type 0
AllowsMatch matched status.Memory = Unit {0}
AllowsMatch matched status.ReadFault = Unit {0}
AllowsMatch (Writes text end) status.WriteFault = Unit {0}
AllowsMatch (Writes text end) s = IsEnd s × (s ≡ end)
AllowsMatch (Refuses fault) (status.NotPcap kind) = kind ≡ fault
AllowsMatch (Refuses fault) s = ⊥
AllowsMatch Unread s = ⊥

-- the files behind a match that came to its end
abbrev pub WritesMatch : Matched → List ℕ → Option (List File) → Option (List File) → Type 0
WritesMatch (Writes text end) out old new = new ≡ told_put (match_name out) text old
WritesMatch (Refuses fault) out old new = ⊥
WritesMatch Unread out old new = ⊥

-- the files behind a match, whatever its status: its file is as it was, or holds a front of the text
abbrev pub LeavesMatch : Matched → List ℕ → Option (List File) → Option (List File) → Type 0
LeavesMatch (Writes text end) out old new = IsPart text (told_file old (match_name out)) (told_file new (match_name out))
LeavesMatch (Refuses fault) out old new = new ≡ old
LeavesMatch Unread out old new = new ≡ old

-- where no fault was counted, the capture's own status is the answer, or there was no memory
abbrev pub CompletesMatch : Matched → Status → Type 0
CompletesMatch (Writes text end) answer = (answer ≡ end) ⊎ (answer ≡ status.Memory)
CompletesMatch (Refuses fault) answer = (answer ≡ status.NotPcap fault) ⊎ (answer ≡ status.Memory)
CompletesMatch Unread answer = answer ≡ status.Memory
