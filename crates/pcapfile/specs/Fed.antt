use Rattle.std.specs.Prelude.{ℕ, suc, ◌≡◌, ◌+◌, List, [], ◌∷◌, ◌++◌, length, take, drop, Ok}
use Rattle.std.specs.List.{sum_by}
use Rattle.pcapfile.specs.declared.head.FileHead.{FileHead}
use Rattle.pcapfile.specs.declared.frame.Frame.{Frame}
use Rattle.pcapfile.specs.declared.frame_fault.FrameFault.{FrameFault}
use Rattle.pcapfile.specs.declared.next.Next.{Next}
use Rattle.pcapfile.specs.declared.next.Next.TheVariants as next
use Rattle.pcapfile.specs.declared.tail.Tail.{Tail}
use Rattle.pcapfile.specs.State.{State}
use Rattle.pcapfile.specs.Format.{head_len}
use Rattle.pcapfile.specs.Head.{head_of}
use Rattle.pcapfile.specs.Capture.{Limits, Records, size_of, records_from, capture_of}
use Rattle.pcapfile.specs.Reading.{end_of_fault, end_of_tail}

-- A capture that comes in pieces, in the words of plain lists: the bytes behind the file header that were fed so far,
-- and the records that were given out so far.

-- the records that the bytes behind a file header have, and their end where the file ends behind these bytes
abbrev pub records_of : FileHead → Limits → List ℕ → Records
records_of head limits bytes = records_from (suc (length bytes)) head limits head_len 0 bytes

-- they are the records of the capture, and its end
abbrev pub CaptureHasRecords : Limits → List ℕ → Type 0
CaptureHasRecords limits file =
    (head : FileHead) → head_of file ≡ Ok head → capture_of limits file ≡ Ok (head, records_of head limits (drop head_len file))

-- the contents of a reader stand for the bytes that were fed and the records that were given out
pub record StandsFor (head : FileHead) (limits : Limits) (fed : List ℕ) (given : List Frame) (s : State) : Type 0 where
  -- the records that were given out are the first that these bytes have
  pub first : take (length given) (records_of head limits fed).frames ≡ given
  -- and what is kept: the file header and the limits, where these records end, how many they are, what is behind them
  pub same_head : s.head ≡ head
  pub same_limits : s.limits ≡ limits
  pub offset : s.at ≡ head_len + sum_by size_of given
  pub number : s.count ≡ length given
  pub left : s.rest ≡ drop (sum_by size_of given) fed

-- a piece was fed: whatever the contents stood for, they stand for it with the piece behind the bytes
abbrev pub IsFed : State → List ℕ → State → Type 0
IsFed old piece new =
    (head : FileHead) (limits : Limits) (fed : List ℕ) (given : List Frame) → StandsFor head limits fed given old → StandsFor head limits (fed ++ piece) given new

-- the bytes so far have these records and no other, and no fault: where the file ends here, it is whole or cut
pub record IsOpenBehind (head : FileHead) (limits : Limits) (fed : List ℕ) (given : List Frame) : Type 0 where
  pub tail : Tail
  pub all : records_of head limits fed ≡ record { frames = given; end = end_of_tail tail }

-- whatever comes behind the bytes so far, there are these records and then this fault
abbrev pub EndsForGood : FileHead → Limits → List ℕ → List Frame → FrameFault → Type 0
EndsForGood head limits fed given fault =
    (more : List ℕ) → records_of head limits (fed ++ more) ≡ record { frames = given; end = end_of_fault fault }

-- what an answer of next says of the bytes so far and of the records given out before it, and what is stood for then
abbrev pub SaysNext : FileHead → Limits → List ℕ → List Frame → Next → State → Type 0
SaysNext head limits fed given (next.Whole frame) new = StandsFor head limits fed (given ++ frame ∷ []) new
SaysNext head limits fed given next.More new = IsOpenBehind head limits fed given × StandsFor head limits fed given new
SaysNext head limits fed given (next.Fault fault) new = EndsForGood head limits fed given fault × StandsFor head limits fed given new

-- next was asked: its answer holds of whatever the contents stood for
abbrev pub IsNext : State → Next → State → Type 0
IsNext old n new =
    (head : FileHead) (limits : Limits) (fed : List ℕ) (given : List Frame) → StandsFor head limits fed given old → SaysNext head limits fed given n new

-- the file ends behind the bytes so far: they have the records given out, and that end
abbrev pub IsFinished : State → Tail → Type 0
IsFinished old tail =
    (head : FileHead) (limits : Limits) (fed : List ℕ) (given : List Frame) → StandsFor head limits fed given old → records_of head limits fed ≡ record { frames = given; end = end_of_tail tail }
