-- What is kept of a capture while its matches are sought.
use Rattle.std.specs.Prelude.{ℕ, ◌≡◌, ◌≤◌, ◌+◌, List, [], ◌++◌, length, Option, Some, None, IfSome, Result, Ok, Err}
use Rattle.capfilter.specs.Expr.{Expr}
use Rattle.pcapfile.specs.declared.frame.Frame.{Frame}
use Rattle.pcapfile.specs.declared.frame_fault.FrameFault.{FrameFault}
use Rattle.pcapfile.specs.declared.head.FileHead.{FileHead}
use Rattle.pcapfile.specs.declared.head_fault.HeadFault.{HeadFault}
use Rattle.pcapfile.specs.declared.tail.Tail.{Tail}
use Rattle.pcapfile.specs.Capture.{End}
use Rattle.pcapfile.specs.Fed.{EndsForGood, StandsFor, records_of}
use Rattle.pcapfile.specs.Reading.{end_of_fault, end_of_tail}
use Rattle.scap_world.specs.Contents.{prefixed}
use Rattle.labtop.specs.declared.matching.Matches.{Matches}
use Rattle.labtop.specs.declared.matched.Turn.{Turn}
use Rattle.labtop.specs.declared.matched.Turn.TheVariants as turn
use Rattle.labtop.specs.declared.matching.Matching.{Matching}
use Rattle.labtop.specs.declared.matching.Took.{Took}
use Rattle.labtop.specs.declared.matching.Took.TheVariants as took
use Rattle.labtop.specs.Drill.{limits}
use Rattle.labtop.specs.Matching.{Matched, Writes, Refuses, Unread, match_text, status_of_end}

-- the reader has the limits and is within them, and its records are counted
pub record IsInside (m : Matching) : Type 0 where
  pub limited : m.frames.limits ≡ limits
  pub inside : m.frames.at ≤ limits.bytes
  pub counted : m.number ≡ m.frames.count

-- how many bytes came, with the file header
abbrev pub came : Matching → ℕ
came m = m.frames.at + length m.frames.rest

-- the bytes that came behind a head have records that were read, and the text is theirs
pub record HasRead (filter : Expr) (head : FileHead) (fed : List ℕ) (m : Matching) : Type 0 where
  pub given : List Frame
  pub stands : StandsFor head limits fed given m.frames
  pub link : m.link ≡ head.link
  pub text : m.text.items ≡ match_text filter head.link given

-- the same, where a fault stands behind these records for good
pub record HasFault (filter : Expr) (head : FileHead) (fed : List ℕ) (fault : FrameFault) (m : Matching) : Type 0 where
  pub given : List Frame
  pub stays : EndsForGood head limits fed given fault
  pub text : m.text.items ≡ match_text filter head.link given

-- what holds after an answer, by what it says
abbrev pub HasTaken : Expr → FileHead → List ℕ → Took → Matching → Type 0
HasTaken filter head fed took.Record m = HasRead filter head fed m
HasTaken filter head fed took.More m = HasRead filter head fed m
HasTaken filter head fed (took.Fault fault) m = HasFault filter head fed fault m

abbrev pub HasReadTo : Expr → FileHead → List ℕ → Option FrameFault → Matching → Type 0
HasReadTo filter head fed None m = HasRead filter head fed m
HasReadTo filter head fed (Some fault) m = HasFault filter head fed fault m

-- a piece more was read, with what is left behind it
pub record HasReadOn (filter : Expr) (head : FileHead) (fed : List ℕ) (left rest : Option (List ℕ)) (m : Matching) : Type 0 where
  pub more : List ℕ
  pub read : HasRead filter head (fed ++ more) m
  pub moved : left ≡ prefixed more rest

abbrev pub HasTurned : Expr → FileHead → List ℕ → Option (List ℕ) → Option (List ℕ) → Turn → Matching → Type 0
HasTurned filter head fed left rest turn.Fed m = HasReadOn filter head fed left rest m
HasTurned filter head fed left rest turn.Ended m = HasRead filter head fed m × IfSome left (λ bytes. bytes ≡ [])
HasTurned filter head fed left rest (turn.Fault fault) m = HasFault filter head fed fault m

-- the end of a capture in code
abbrev pub end_of : Result Tail FrameFault → End
end_of (Ok tail) = end_of_tail tail
end_of (Err fault) = end_of_fault fault

-- the matches of all bytes behind a head
pub record HasAll (filter : Expr) (head : FileHead) (bytes : List ℕ) (m : Matches) : Type 0 where
  pub text : m.text.items ≡ match_text filter head.link (records_of head limits bytes).frames
  pub end : end_of m.end ≡ (records_of head limits bytes).end

-- what is found of a capture is what a filter asks for
abbrev pub IsMatched : Result Matches HeadFault → Matched → Type 0
IsMatched (Ok m) (Writes text end) = (m.text.items ≡ text) × (status_of_end (end_of m.end) ≡ end)
IsMatched (Ok m) (Refuses fault) = ⊥
IsMatched (Ok m) Unread = ⊥
IsMatched (Err kind) (Writes text end) = ⊥
IsMatched (Err kind) (Refuses fault) = kind ≡ fault
IsMatched (Err kind) Unread = ⊥
