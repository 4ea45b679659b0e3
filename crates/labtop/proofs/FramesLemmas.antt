use Rattle.std.proofs.Common.{◌≡◌, ℕ, suc, ◌+◌, List, [], length, drop, refl, ap, sym, subst, ◌∙◌, arith, length-drop}
use Rattle.std.specs.Prelude.{None, Result, Ok, Err}
use Rattle.pcapfile.specs.declared.frame.Frame.{Frame}
use Rattle.pcapfile.specs.declared.head.FileHead.{FileHead}
use Rattle.pcapfile.specs.declared.head_fault.HeadFault.{HeadFault}
use Rattle.pcapfile.specs.declared.frame_fault.FrameFault.{FrameFault}
use Rattle.pcapfile.specs.declared.frame_fault.FrameFault.TheVariants as fault
use Rattle.pcapfile.specs.declared.next.Next.TheVariants as next
use Rattle.pcapfile.specs.Head.{head_of}
use Rattle.pcapfile.specs.Capture.{End, Records, size_of, records_from, behind_head}
use Rattle.pcapfile.specs.State.{State}
use Rattle.pcapfile.specs.Reading.{Answers, end_of_fault}
use Rattle.pcapfile.specs.Fed.{records_of, StandsFor, IsFed, EndsForGood}
use Rattle.pcapfile.proofs.RecordLemmas.{fits}
use Rattle.pcapfile.proofs.FedLemmas.{capture_has_records}
use Rattle.std.proofs.lemmas.List.{append-nil}
use Rattle.labtop.specs.Drill.{limits, whole_in, whole_of}

-- a record takes its bytes from those that are left
pub passed_rest : (s t : State) (f : Frame) → Answers s (next.Whole f) t → length t.rest + size_of f ≡ length s.rest
passed_rest s t f h =
    let inside = fits s.head s.limits s.at s.count s.rest f h.0 in
    let left : length t.rest ≡ length (drop (size_of f) s.rest) = ap (λ (x : State). length x.rest) h.1 in
    omega (arith, length-drop (size_of f) s.rest)

-- the records of a capture, where it has a head
abbrev records_in : Records → Result (FileHead × Records) HeadFault → Records
records_in none (Ok capture) = capture.1
records_in none (Err fault) = none

-- records that the bytes behind the file header have are those of the capture
pub whole_of-read : (file rest : List ℕ) (head : FileHead) (frames : List Frame) (end : End) → head_of file ≡ Ok head → rest ≡ drop 24 file
    → records_of head limits rest ≡ record { frames = frames; end = end } → whole_in frames end ≡ whole_of (records_from (suc (suc (length file))) head limits 24 0 rest)
unfolding whole_of
whole_of-read file rest head frames end opens behind read =
    let all : Records = record { frames = frames; end = end } in
    let from : List ℕ → Records = λ bytes. records_from (suc (suc (length file))) head limits 24 0 bytes in
    let captured = sym (ap (behind_head limits file) opens) ∙ capture_has_records limits file head opens in
    let same : from (drop 24 file) ≡ records_of head limits (drop 24 file) = ap (records_in all) captured in
    sym (ap (λ (bytes : List ℕ). whole_of (from bytes)) behind ∙ ap whole_of (same ∙ ap (records_of head limits) (sym behind) ∙ read))

-- a fault that stays is there now
pub fault_now : (rest : List ℕ) (head : FileHead) (frames : List Frame) (x : FrameFault) → EndsForGood head limits rest frames x → records_of head limits rest ≡ record { frames = frames; end = end_of_fault x }
fault_now rest head frames x h = ap (records_of head limits) (sym (append-nil rest)) ∙ h []

-- what is fed to a new object is what came, and no record was read yet
pub started : (head : FileHead) (rest : List ℕ) (new s : State) (found : List Frame) → StandsFor head limits [] [] new → IsFed new rest s → found ≡ [] → StandsFor head limits rest found s
started head rest new s found nothing fed none =
    subst (λ (frames : List Frame). StandsFor head limits rest frames s) (sym none) (fed head limits [] [] nothing)

-- a capture that ends in a fault isn't whole
pub whole_in-fault : (frames : List Frame) (x : FrameFault) → whole_in frames (end_of_fault x) ≡ None
whole_in-fault frames (fault.TooBig at len) = refl
whole_in-fault frames fault.TooLong = refl
