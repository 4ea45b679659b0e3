use Rattle.std.specs.Prelude.{ℕ, zero, suc, ◌+◌, ◌*◌, nat_eq, nat_lt, nat_le, [], ◌∷◌, List, length, take, drop, Bool, ◌&&◌, if◌then◌else◌, Result, Ok, Err}
use Rattle.pcapfile.specs.declared.head.FileHead.{FileHead}
use Rattle.pcapfile.specs.declared.head_fault.HeadFault.{HeadFault}
use Rattle.pcapfile.specs.declared.frame.Frame.{Frame}
use Rattle.pcapfile.specs.Format.{head_len, header_len, fraction_at, len_at, longest, second, microsecond}
use Rattle.pcapfile.specs.Head.{number, head_of}

-- The records of pcap 2.4 behind the file header. A record is a header of 16 bytes, four numbers of four bytes each:
-- seconds, fraction, captured length, original length; and the captured bytes. The original length is not looked at.

-- the most records and the most bytes that are read
pub record Limits : Type 0 where
  pub frames : ℕ
  pub bytes : ℕ

-- how a capture ends
pub data End : Type 0 where
  Whole : End
  Cut : (bytes : ℕ) → End
  TooBig : (at len : ℕ) → End
  TooLong : End

-- what stands at a place: the end, or a record
pub data Place : Type 0 where
  Ends : End → Place
  Holds : Frame → Place

-- the moment of a record header, in nanoseconds; a fraction beyond a second is taken as it is
abbrev pub moment_of : FileHead → List ℕ → ℕ
moment_of head bytes =
    number head.big 4 bytes * second + (if head.nanos then number head.big 4 (drop fraction_at bytes) else number head.big 4 (drop fraction_at bytes) * microsecond)

-- the captured length of a record header
abbrev pub len_of : FileHead → List ℕ → ℕ
len_of head bytes = number head.big 4 (drop len_at bytes)

-- whether so many bytes from an offset end past the most bytes, in a file that has a byte past them
abbrev pub is_past : ℕ → ℕ → ℕ → List ℕ → Bool
is_past most at len rest = nat_lt most (at + len) && nat_lt most (at + length rest)

-- what a record header at an offset begins, where these bytes are left of the file from there; the first that holds:
-- the captured length is too big; the record ends past the most bytes; it is cut; there is a record
unfoldable pub record_at : FileHead → Limits → ℕ → List ℕ → Place
record_at head limits at rest =
    if nat_lt longest (len_of head rest) then Ends (TooBig at (len_of head rest)) else
    if is_past limits.bytes at (header_len + len_of head rest) rest then Ends TooLong else
    if nat_lt (length rest) (header_len + len_of head rest) then Ends (Cut (length rest)) else
    Holds (record { at = at; moment = moment_of head rest; bytes = take (len_of head rest) (drop header_len rest) })

-- what stands at an offset, behind so many records, where these bytes are left of the file from there; the first that
-- holds: nothing is left; the most records were read; the header ends past the most bytes; the header is cut; what the
-- header begins
unfoldable pub place_of : FileHead → Limits → ℕ → ℕ → List ℕ → Place
place_of head limits at count rest =
    if nat_eq (length rest) 0 then Ends Whole else
    if nat_le limits.frames count then Ends TooLong else
    if is_past limits.bytes at header_len rest then Ends TooLong else
    if nat_lt (length rest) header_len then Ends (Cut (length rest)) else
    record_at head limits at rest

-- the records of a capture, and its end
pub record Records : Type 0 where
  pub frames : List Frame
  pub end : End

-- the records from a place on, by those behind a record that stands there
abbrev pub behind : Place → (Frame → Records) → Records
behind (Ends end) rest = record { frames = []; end = end }
behind (Holds frame) rest = record { frames = frame ∷ (rest frame).frames; end = (rest frame).end }

-- how many bytes a record takes
abbrev pub size_of : Frame → ℕ
size_of frame = header_len + length frame.bytes

-- the records from an offset on; each takes one of the turns, of which any number above that of the bytes serves
unfoldable pub records_from : ℕ → FileHead → Limits → ℕ → ℕ → List ℕ → Records
records_from zero head limits at count rest = record { frames = []; end = Whole }
records_from (suc turns) head limits at count rest = behind (place_of head limits at count rest)
    (λ frame. records_from turns head limits (at + size_of frame) (count + 1) (drop (size_of frame) rest))

-- the records behind a head, or its fault
abbrev pub behind_head : Limits → List ℕ → Result FileHead HeadFault → Result (FileHead × Records) HeadFault
behind_head limits bytes (Err fault) = Err fault
behind_head limits bytes (Ok head) = Ok (head, records_from (suc (suc (length bytes))) head limits head_len 0 (drop head_len bytes))

-- a capture: a head and its records, or a head fault
abbrev pub capture_of : Limits → List ℕ → Result (FileHead × Records) HeadFault
capture_of limits bytes = behind_head limits bytes (head_of bytes)
