use Rattle.std.specs.Prelude.{ℕ, ◌-◌, ◌*◌, ◌/◌, nat_lt, ◌||◌, Bool, List, length, drop, slice_index, if◌then◌else◌}
use Rattle.byteorder.specs.Endian.{big_number}
use Rattle.streamkey.specs.declared.addr.Addr.{Addr}
use Rattle.streamkey.specs.declared.proto.Proto.TheVariants.{Tcp}
use Rattle.streamkey.specs.Key.{key_of}
use Rattle.porthdr.specs.declared.skip.Skip.TheVariants as skip
use Rattle.porthdr.specs.Kind.{Kind, Skipped, accepted, end_at}

-- TCP (RFC 9293, section 3.1). A segment is a header, the high half of whose byte at 12 (the data offset) says its length,
-- and the payload.

-- the length of the header, options included, which is said in words of four bytes
abbrev pub header_length : List ℕ → ℕ
header_length segment = slice_index segment 12 / 16 * 4

-- whether no whole header stands there (our "what was captured")
unfoldable pub is_short : List ℕ → Bool
is_short segment = nat_lt (length segment) 20 || nat_lt (header_length segment) 20 || nat_lt (length segment) (header_length segment)

-- the sequence number, and the byte of the control bits
abbrev pub sequence_number : List ℕ → ℕ
sequence_number segment = big_number 4 (drop 4 segment)

abbrev pub control_bits : List ℕ → ℕ
control_bits segment = slice_index segment 13

-- what a body is for which so many bytes are declared
unfoldable pub tcp : Addr → Addr → ℕ → List ℕ → Kind
tcp source target declared segment =
    if is_short segment then Skipped skip.Short else
    accepted (key_of Tcp (end_at source segment 0) (end_at target segment 2)) (sequence_number segment) (control_bits segment)
    (declared - header_length segment) (drop (header_length segment) segment)
