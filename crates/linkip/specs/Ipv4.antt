use Rattle.std.specs.Prelude.{ℕ, ◌-◌, ◌*◌, ◌/◌, ◌%◌, nat_eq, nat_lt, ◌&&◌, ◌||◌, not, bit_and, Bool, List, length, take, drop, slice_index, if◌then◌else◌}
use Rattle.streamkey.specs.declared.addr.Addr.TheVariants.{V4}
use Rattle.linkip.specs.Fields.{short_at, bytes_at}
use Rattle.linkip.specs.Carried.{Carried, Ip, Fragment, Other, Short, is_transport}

-- IPv4 (RFC 791, section 3.1). A packet is a header, whose first byte says the version and the header's length, and what
-- follows it.

-- the version, in the high half of the first byte
abbrev pub version : List ℕ → ℕ
version packet = slice_index packet 0 / 16

-- the length of the header, options included, which the low half of the first byte says in words of four bytes
abbrev pub header_length : List ℕ → ℕ
header_length packet = slice_index packet 0 % 16 * 4

-- the length that is said for the whole packet, header included
abbrev pub total_length : List ℕ → ℕ
total_length packet = short_at packet 2

-- whether no whole header of version 4 stands there (our "what was captured")
abbrev pub lacks_header : List ℕ → Bool
lacks_header packet =
    nat_lt (length packet) 20 || not (nat_eq (version packet) 4) || nat_lt (header_length packet) 20 || nat_lt (length packet) (header_length packet)

-- whether the packet is said to be shorter than its header (our "zero says nothing")
abbrev pub ends_in_header : List ℕ → Bool
ends_in_header packet = not (nat_eq (total_length packet) 0) && nat_lt (total_length packet) (header_length packet)

unfoldable pub is_short : List ℕ → Bool
is_short packet = lacks_header packet || ends_in_header packet

-- whether the bit for more fragments is set, or the fragment's offset (the 13 bits below) is not 0 (our "no fragments")
unfoldable pub is_fragment : List ℕ → Bool
is_fragment packet = not (nat_eq (bit_and (short_at packet 6) 0x2000) 0) || not (nat_eq (bit_and (short_at packet 6) 0x1fff) 0)

-- the length that the header declares for what follows it (our "zero says nothing")
abbrev pub declared_length : List ℕ → ℕ
declared_length packet = (if nat_eq (total_length packet) 0 then length packet else total_length packet) - header_length packet

-- what a packet carries (our "the first that holds"); what was captured beyond the declared length is padding
unfoldable pub ipv4 : List ℕ → Carried
ipv4 packet =
    if is_short packet then Short else
    if is_fragment packet then Fragment else
    if not (is_transport (slice_index packet 9)) then Other else
    Ip (slice_index packet 9) (V4 (bytes_at packet 12 4)) (V4 (bytes_at packet 16 4)) (declared_length packet)
    (take (declared_length packet) (drop (header_length packet) packet))
