use Rattle.std.specs.Prelude.{ℕ, true, false, List, [], ◌∷◌, ◌++◌}
use Rattle.pcapfile.specs.declared.frame.Frame.{Frame}
use Rattle.pcapfile.specs.declared.head.FileHead.{FileHead}
use Rattle.pcapfile.specs.declared.limits.TheConstants.{MOST_RECORDS, MOST_BYTES}
use Rattle.pcapfile.specs.declared.link.Link.TheVariants.{Ethernet}
use Rattle.pcapfile.specs.Capture.{Limits}

-- Captures written out by hand.

-- the most records and bytes that are read
abbrev pub ample : Limits
ample = record { frames = MOST_RECORDS; bytes = MOST_BYTES }

-- a little-endian file header with microseconds, version 2.4, snap length 262,144, link type 1
abbrev pub little_head : List ℕ
little_head =
    0xd4 ∷ 0xc3 ∷ 0xb2 ∷ 0xa1 ∷ 2 ∷ 0 ∷ 4 ∷ 0 ∷ 0 ∷ 0 ∷ 0 ∷ 0 ∷
    0 ∷ 0 ∷ 0 ∷ 0 ∷ 0 ∷ 0 ∷ 4 ∷ 0 ∷ 1 ∷ 0 ∷ 0 ∷ 0 ∷ []

abbrev pub little : FileHead
little = record { big = false; nanos = false; link = Ethernet }

-- a file of the newer format
abbrev pub newer_head : List ℕ
newer_head =
    0x0a ∷ 0x0d ∷ 0x0d ∷ 0x0a ∷ 28 ∷ 0 ∷ 0 ∷ 0 ∷ 0x4d ∷ 0x3c ∷ 0x2b ∷ 0x1a ∷
    1 ∷ 0 ∷ 0 ∷ 0 ∷ 255 ∷ 255 ∷ 255 ∷ 255 ∷ 255 ∷ 255 ∷ 255 ∷ 255 ∷ []

-- the same header big-endian with nanoseconds
abbrev pub big_head : List ℕ
big_head =
    0xa1 ∷ 0xb2 ∷ 0x3c ∷ 0x4d ∷ 0 ∷ 2 ∷ 0 ∷ 4 ∷ 0 ∷ 0 ∷ 0 ∷ 0 ∷
    0 ∷ 0 ∷ 0 ∷ 0 ∷ 0 ∷ 4 ∷ 0 ∷ 0 ∷ 0 ∷ 0 ∷ 0 ∷ 1 ∷ []

abbrev pub big : FileHead
big = record { big = true; nanos = true; link = Ethernet }

-- a frame of Ethernet with one datagram of UDP from 10.0.0.1:5000 to 10.0.0.2:53, whose payload is "hi"
abbrev pub datagram : List ℕ
datagram =
    2 ∷ 0 ∷ 0 ∷ 0 ∷ 0 ∷ 2 ∷ 2 ∷ 0 ∷ 0 ∷ 0 ∷ 0 ∷ 1 ∷ 8 ∷ 0 ∷
    0x45 ∷ 0 ∷ 0 ∷ 0x1e ∷ 0 ∷ 0 ∷ 0 ∷ 0 ∷ 0x40 ∷ 0x11 ∷ 0 ∷ 0 ∷ 10 ∷ 0 ∷ 0 ∷ 1 ∷ 10 ∷ 0 ∷ 0 ∷ 2 ∷
    0x13 ∷ 0x88 ∷ 0 ∷ 0x35 ∷ 0 ∷ 0x0a ∷ 0 ∷ 0 ∷ 0x68 ∷ 0x69 ∷ []

-- its record, a second and 5 nanoseconds behind the start of 1970
abbrev pub datagram_record : List ℕ
datagram_record = (0 ∷ 0 ∷ 0 ∷ 1 ∷ 0 ∷ 0 ∷ 0 ∷ 5 ∷ 0 ∷ 0 ∷ 0 ∷ 0x2c ∷ 0 ∷ 0 ∷ 0 ∷ 0x2c ∷ []) ++ datagram

abbrev pub datagram_frame : Frame
datagram_frame = record { at = 24; moment = 1000000005; bytes = datagram }

-- the header of a record of 262,145 bytes
abbrev pub too_big_header : List ℕ
too_big_header = 0 ∷ 0 ∷ 0 ∷ 2 ∷ 0 ∷ 0 ∷ 0 ∷ 0 ∷ 0 ∷ 4 ∷ 0 ∷ 1 ∷ 0 ∷ 4 ∷ 0 ∷ 1 ∷ []
