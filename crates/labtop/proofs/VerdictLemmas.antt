use Rattle.std.proofs.Common.{◌≡◌, ℕ, suc, ◌+◌, ◌<◌, List, length, take, drop, refl, ap, sym, ◌∙◌, Bool, true, false, cond, subst, inl, inr, arith, nat_lt, length-take}
use Rattle.std.specs.Prelude.{Option, Result, Ok, Err}
use Rattle.std.proofs.lemmas.Bool.{cases_lt}
use Rattle.std.proofs.lemmas.Bool.Decides.{nat_tests}
use Rattle.std.proofs.lemmas.List.{take_all, take-append-drop}
use Rattle.streamdefs.specs.Terms.{Terms}
use Rattle.pcapfile.specs.declared.head.FileHead.{FileHead}
use Rattle.pcapfile.specs.declared.head_fault.HeadFault.{HeadFault}
use Rattle.pcapfile.specs.declared.frame.Frame.{Frame}
use Rattle.pcapfile.specs.Capture.{records_from, behind_head}
use Rattle.pcapfile.specs.Head.{head_of}
use Rattle.labtop.specs.declared.limits.TheConstants.{MOST_BUILT}
use Rattle.labtop.specs.declared.outcome.Outcome.{Outcome}
use Rattle.scapconf.specs.declared.status.Status.{Status}
use Rattle.labtop.specs.Drill.{Verdict, Refused, NotBuilt, limits, of_capture, of_frames, whole_of, verdict_of}
use Rattle.labtop.specs.Gives.{Gives}
use Rattle.scapconf.specs.declared.settings.Settings.{Settings}
use Rattle.labtop.proofs.HeadLemmas.{head_of-append}

-- a verdict by the head and the records
pub verdict_of_frames : (s : Settings) (bytes : List ℕ) (head : FileHead) (o : Option (List Frame)) (rest : List ℕ) → head_of bytes ≡ Ok head → nat_lt MOST_BUILT (length bytes) ≡ false
    → rest ≡ drop 24 bytes → o ≡ whole_of (records_from (suc (suc (length bytes))) head limits 24 0 rest) → verdict_of s bytes ≡ of_frames s head.link o
unfolding verdict_of
verdict_of_frames s bytes head o rest h small behind same =
    ap (λ (r : Result FileHead HeadFault). of_capture s (length bytes) (behind_head limits bytes r)) h
    ∙ ap (λ (b : Bool). cond b NotBuilt (of_frames s head.link (whole_of (records_from (suc (suc (length bytes))) head limits 24 0 (drop 24 bytes))))) small
    ∙ ap (λ (r : List ℕ). of_frames s head.link (whole_of (records_from (suc (suc (length bytes))) head limits 24 0 r))) (sym behind)
    ∙ ap (of_frames s head.link) (sym same)

pub gives_at : (m : Terms) (r : Result Outcome Status) (v w : Verdict) → v ≡ w → Gives m r w → Gives m r v
gives_at m r v w e h = subst (λ (x : Verdict). Gives m r x) (sym e) h

-- of a file with more bytes than are built the head alone decides
abbrev of_long : Result FileHead HeadFault → Verdict
of_long (Err fault) = Refused fault
of_long (Ok head) = NotBuilt

by_head : (s : Settings) (bytes : List ℕ) → nat_lt MOST_BUILT (length bytes) ≡ true → (r : Result FileHead HeadFault) → of_capture s (length bytes) (behind_head limits bytes r) ≡ of_long r
by_head s bytes long (Err fault) = refl
by_head s bytes long (Ok head) =
    ap (λ (b : Bool). cond b NotBuilt (of_frames s head.link (whole_of (records_from (suc (suc (length bytes))) head limits 24 0 (drop 24 bytes))))) long

long_verdict : (s : Settings) (bytes : List ℕ) → MOST_BUILT < length bytes → verdict_of s bytes ≡ of_long (head_of bytes)
unfolding verdict_of
long_verdict s bytes long = by_head s bytes (let test : nat_lt MOST_BUILT (length bytes) ≡ true = grind (arith, nat_tests) in test) (head_of bytes)

-- the bytes up to one past the most that are built decide
pub verdict_of-take : (s : Settings) (bytes : List ℕ) → verdict_of s (take (MOST_BUILT + 1) bytes) ≡ verdict_of s bytes
verdict_of-take s bytes = elim (cases_lt MOST_BUILT (length bytes)) [
  | inl long ↦
      let front : MOST_BUILT < length (take (MOST_BUILT + 1) bytes) = omega (arith, length-take (MOST_BUILT + 1) bytes) in
      long_verdict s (take (MOST_BUILT + 1) bytes) front
      ∙ ap of_long (sym (head_of-append (take (MOST_BUILT + 1) bytes) (drop (MOST_BUILT + 1) bytes) (omega arith)) ∙ ap head_of (take-append-drop (MOST_BUILT + 1) bytes))
      ∙ sym (long_verdict s bytes long)
  | inr short ↦ ap (verdict_of s) (take_all (MOST_BUILT + 1) bytes (omega arith))
]
