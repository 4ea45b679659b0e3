use Rattle.std.specs.Prelude.{ℕ, List, [], ◌∷◌}
use Rattle.pcapfile.specs.declared.limits.TheConstants.{HEAD_SIZE, HEADER_SIZE, LONGEST_RECORD}

-- The numbers of a capture file, pcap 2.4.

-- the bytes of the file header, and of the header of a record
abbrev pub head_len : ℕ
head_len = HEAD_SIZE

abbrev pub header_len : ℕ
header_len = HEADER_SIZE

-- where the major version, and the link type, stand in the file header
abbrev pub major_at : ℕ
major_at = 4

abbrev pub link_at : ℕ
link_at = 20

-- the major version that is read
abbrev pub major_version : ℕ
major_version = 2

-- the minor version, and the link type, of the captures that are written
abbrev pub minor_version : ℕ
minor_version = 4

abbrev pub ethernet : ℕ
ethernet = 1

-- one more than the greatest number of the low 16 bits of the link type
abbrev pub link_numbers : ℕ
link_numbers = 65536

-- where the fraction, and the captured length, stand in the header of a record; the seconds stand first
abbrev pub fraction_at : ℕ
fraction_at = 4

abbrev pub len_at : ℕ
len_at = 8

-- the longest captured length of a record that is read
abbrev pub longest : ℕ
longest = LONGEST_RECORD

-- nanoseconds of a second, and of a microsecond
abbrev pub second : ℕ
second = 1000000000

abbrev pub microsecond : ℕ
microsecond = 1000

-- the first four bytes, by the order of bytes and by the fraction
abbrev pub big_micros : List ℕ
big_micros = 0xa1 ∷ 0xb2 ∷ 0xc3 ∷ 0xd4 ∷ []

abbrev pub little_micros : List ℕ
little_micros = 0xd4 ∷ 0xc3 ∷ 0xb2 ∷ 0xa1 ∷ []

abbrev pub big_nanos : List ℕ
big_nanos = 0xa1 ∷ 0xb2 ∷ 0x3c ∷ 0x4d ∷ []

abbrev pub little_nanos : List ℕ
little_nanos = 0x4d ∷ 0x3c ∷ 0xb2 ∷ 0xa1 ∷ []

-- the first four bytes of the newer format, pcapng, in either order of bytes
abbrev pub newer_format : List ℕ
newer_format = 0x0a ∷ 0x0d ∷ 0x0d ∷ 0x0a ∷ []
