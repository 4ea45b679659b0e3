use Rattle.std.specs.Prelude.{ℕ, ◌+◌, ◌*◌, ◌<◌, ◌≤◌, ◌^◌, ◌≡◌, false, List, [], ◌∷◌, ◌++◌, length, All, Ok}
use Rattle.std.specs.List.{flat_map}
use Rattle.byteorder.specs.Endian.{little_bytes}
use Rattle.pcapfile.specs.declared.head.FileHead.{FileHead}
use Rattle.pcapfile.specs.declared.link.Link.TheVariants.{Ethernet}
use Rattle.pcapfile.specs.declared.frame.Frame.{Frame}
use Rattle.pcapfile.specs.Format.{head_len, header_len, longest, little_micros, major_version, minor_version, ethernet, second, microsecond}
use Rattle.pcapfile.specs.Capture.{Limits, Whole, capture_of}

-- The captures that are written: little-endian with microseconds, version 2.4, of Ethernet.

-- their file header: the magic, the version, eight bytes of zeros, the snap length, the link type
abbrev pub written_head : List ℕ
written_head = little_micros ++ little_bytes 2 major_version ++ little_bytes 2 minor_version ++ little_bytes 8 0 ++ little_bytes 4 longest ++ little_bytes 4 ethernet

-- a record: seconds, microseconds, captured and original length, which are the same, and the bytes
abbrev pub written_frame : ℕ → ℕ → List ℕ → List ℕ
written_frame seconds fraction bytes =
    little_bytes 4 seconds ++ little_bytes 4 fraction ++ little_bytes 4 (length bytes) ++ little_bytes 4 (length bytes) ++ bytes

-- What is written is read.

-- a record that is to be written, with numbers of 32 bits and at most the longest length
pub record Item : Type 0 where
  pub seconds : ℕ
  pub fraction : ℕ
  pub bytes : List ℕ

pub record CanBeWritten (item : Item) : Type 0 where
  pub seconds : item.seconds < 2 ^ 32
  pub fraction : item.fraction < 2 ^ 32
  pub short : length item.bytes ≤ longest

-- the bytes of all records, and of the whole file
abbrev pub written_records : List Item → List ℕ
written_records items = flat_map (λ i. written_frame i.seconds i.fraction i.bytes) items

abbrev pub written_file : List Item → List ℕ
written_file items = written_head ++ written_records items

-- the file header that is read
abbrev pub read_head : FileHead
read_head = record { big = false; nanos = false; link = Ethernet }

-- the records that are read, from an offset on
abbrev pub read_frame : ℕ → Item → Frame
read_frame at item = record { at = at; moment = item.seconds * second + item.fraction * microsecond; bytes = item.bytes }

abbrev pub read_frames : ℕ → List Item → List Frame
read_frames at [] = []
read_frames at (item ∷ items) = read_frame at item ∷ read_frames (at + (header_len + length item.bytes)) items

-- a written file within the limits is a whole capture of just these records
abbrev pub IsReadBack : Limits → List Item → Type 0
IsReadBack limits items =
    All CanBeWritten items → length items ≤ limits.frames → length (written_file items) ≤ limits.bytes → capture_of limits (written_file items) ≡ Ok (read_head, record { frames = read_frames head_len items; end = Whole })
