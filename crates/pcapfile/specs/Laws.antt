use Rattle.std.specs.Prelude.{ℕ, ◌≡◌, ◌+◌, ◌<◌, ◌≤◌, ◌⊎◌, List, [], ◌∷◌, ◌++◌, length, take, drop, Ok}
use Rattle.std.specs.List.{sum_by}
use Rattle.pcapfile.specs.declared.head.FileHead.{FileHead}
use Rattle.pcapfile.specs.declared.frame.Frame.{Frame}
use Rattle.pcapfile.specs.declared.frame_fault.FrameFault.{FrameFault}
use Rattle.pcapfile.specs.State.{State}
use Rattle.pcapfile.specs.Format.{head_len, header_len, longest}
use Rattle.pcapfile.specs.Head.{head_of}
use Rattle.pcapfile.specs.Capture.{Limits, End, Whole, Cut, TooBig, TooLong, Ends, Holds, len_of, moment_of, size_of, Records, records_from, capture_of}
use Rattle.pcapfile.specs.Reading.{place_at, passed, end_of_fault}

-- What the definition of a capture means, in the words of a capture file.

-- a record of a file, where records are read from an offset on, behind so many, and these are the earlier ones of them
pub record Stands (head : FileHead) (limits : Limits) (at count : ℕ) (file : List ℕ) (earlier : List Frame) (frame : Frame) : Type 0 where
  -- it stands right behind all earlier ones
  pub offset : frame.at ≡ at + sum_by size_of earlier
  -- its moment and its bytes are those that the file has there
  pub moment : frame.moment ≡ moment_of head (drop frame.at file)
  pub bytes : frame.bytes ≡ take (len_of head (drop frame.at file)) (drop header_len (drop frame.at file))
  pub len : length frame.bytes ≡ len_of head (drop frame.at file)
  -- it is whole, and within each limit
  pub whole : frame.at + size_of frame ≤ length file
  pub short : length frame.bytes ≤ longest
  pub inside : frame.at + size_of frame ≤ limits.bytes
  pub number : count + length earlier < limits.frames

-- each of these records stands so
abbrev pub EachStands : FileHead → Limits → ℕ → ℕ → List ℕ → List Frame → Type 0
EachStands head limits at count file frames =
    (earlier later : List Frame) (frame : Frame) → frames ≡ earlier ++ frame ∷ later → Stands head limits at count file earlier frame

-- the records of a capture stand one behind another from the file header on, each with the bytes that the file has there
abbrev pub RecordsStand : Limits → List ℕ → Type 0
RecordsStand limits file =
    (head : FileHead) (records : Records) → capture_of limits file ≡ Ok (head, records) → EachStands head limits head_len 0 file records.frames

-- Why no record follows behind so many, where `at` is the offset at which the last one ends and `rest` are the bytes
-- that the file has from there.

-- some bytes are left, and fewer than the record takes, within both limits
pub record IsCut (head : FileHead) (limits : Limits) (at count : ℕ) (rest : List ℕ) (bytes : ℕ) : Type 0 where
  pub left : length rest ≡ bytes
  pub some : 0 < bytes
  pub partial : (bytes < header_len) ⊎ ((len_of head rest ≤ longest) × (bytes < header_len + len_of head rest))
  pub within : count < limits.frames
  pub inside : at + bytes ≤ limits.bytes

-- a header says that too many bytes were captured
pub record IsTooBig (head : FileHead) (limits : Limits) (at count : ℕ) (rest : List ℕ) : Type 0 where
  pub within : count < limits.frames
  pub begun : header_len ≤ length rest
  pub inside : at + header_len ≤ limits.bytes
  pub big : longest < len_of head rest

-- a header ends past the most bytes, and the file has a byte past them
pub record IsPastHeader (limits : Limits) (at : ℕ) (rest : List ℕ) : Type 0 where
  pub more : 0 < length rest
  pub past : limits.bytes < at + header_len
  pub file : limits.bytes < at + length rest

-- a record ends past the most bytes, and the file has a byte past them
pub record IsPastRecord (head : FileHead) (limits : Limits) (at count : ℕ) (rest : List ℕ) : Type 0 where
  pub within : count < limits.frames
  pub begun : header_len ≤ length rest
  pub inside : at + header_len ≤ limits.bytes
  pub short : len_of head rest ≤ longest
  pub past : limits.bytes < at + (header_len + len_of head rest)
  pub file : limits.bytes < at + length rest

-- the reason for each end
abbrev pub EndsThere : FileHead → Limits → (at count : ℕ) → List ℕ → End → Type 0
EndsThere head limits at count rest Whole = length rest ≡ 0
EndsThere head limits at count rest (Cut bytes) = IsCut head limits at count rest bytes
EndsThere head limits at count rest (TooBig offset captured) = IsTooBig head limits at count rest × (at ≡ offset) × (len_of head rest ≡ captured)
EndsThere head limits at count rest TooLong = (0 < length rest) × ((limits.frames ≤ count) ⊎ (IsPastHeader limits at rest ⊎ IsPastRecord head limits at count rest))

-- records and their end account for each byte of the file from an offset on, behind so many records: the records take no
-- more than there is, and the end is that of what they leave
pub record Accounts (head : FileHead) (limits : Limits) (file : List ℕ) (at count : ℕ) (frames : List Frame) (end : End) : Type 0 where
  pub taken : at + sum_by size_of frames ≤ length file
  pub why : EndsThere head limits (at + sum_by size_of frames) (count + length frames) (drop (at + sum_by size_of frames) file) end

-- the file header, the records and the end of a capture account for each byte of the file
abbrev pub CaptureAccounts : Limits → List ℕ → Type 0
CaptureAccounts limits file =
    (head : FileHead) (records : Records) → capture_of limits file ≡ Ok (head, records) → Accounts head limits file head_len 0 records.frames records.end

-- and no others do: records that stand so, with an end that accounts for the rest, are those of the capture
abbrev pub NoOthersDo : Limits → List ℕ → Type 0
NoOthersDo limits file =
    (head : FileHead) (frames : List Frame) (end : End) → head_of file ≡ Ok head → EachStands head limits head_len 0 file frames → Accounts head limits file head_len 0 frames end
    → capture_of limits file ≡ Ok (head, record { frames = frames; end = end })

-- any two numbers of turns above that of the bytes give the same records
abbrev pub TurnsServe : FileHead → Limits → (at count : ℕ) → List ℕ → Type 0
TurnsServe head limits at count rest =
    (turns others : ℕ) → length rest < turns → length rest < others → records_from turns head limits at count rest ≡ records_from others head limits at count rest

-- a state to which more bytes came
abbrev pub fed : State → List ℕ → State
fed s piece = record { head = s.head; limits = s.limits; at = s.at; count = s.count; rest = s.rest ++ piece }

-- a fault stays, whatever comes
abbrev pub FaultStays : State → FrameFault → Type 0
FaultStays s fault = (more : List ℕ) → place_at s ≡ Ends (end_of_fault fault) → place_at (fed s more) ≡ Ends (end_of_fault fault)

-- a record stays, whatever comes, and what comes then comes behind it
abbrev pub RecordStays : State → Frame → Type 0
RecordStays s frame =
    (more : List ℕ) → place_at s ≡ Holds frame → (place_at (fed s more) ≡ Holds frame) × (passed (fed s more) frame ≡ fed (passed s frame) more)

-- the state behind the file header, to which nothing came
abbrev pub opened : FileHead → Limits → State
opened head limits = record { head = head; limits = limits; at = head_len; count = 0; rest = [] }
