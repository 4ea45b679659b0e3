use Rattle.std.specs.Prelude.{ℕ, zero, suc, ◌+◌, ◌-◌, ◌*◌, ◌/◌, nat_eq, nat_lt, ◌||◌, not, Bool, List, length, take, drop, slice_index, if◌then◌else◌, Option, Some, None}
use Rattle.streamkey.specs.declared.addr.Addr.{Addr}
use Rattle.streamkey.specs.declared.addr.Addr.TheVariants.{V6}
use Rattle.linkip.specs.Fields.{short_at, bytes_at}
use Rattle.linkip.specs.Carried.{Carried, Ip, Fragment, Other, Short, is_transport}

-- IPv6 (RFC 8200). A packet is a header of 40 bytes (section 3) and its payload. The payload is a chain: each header
-- names the one behind it, extension headers first (section 4).

abbrev pub version : List ℕ → ℕ
version packet = slice_index packet 0 / 16

unfoldable pub is_short : List ℕ → Bool
is_short packet = nat_lt (length packet) 40 || not (nat_eq (version packet) 6)

-- the length that the header declares for the payload (our "zero says nothing")
abbrev pub declared_length : List ℕ → ℕ
declared_length packet = if nat_eq (short_at packet 4) 0 then length packet - 40 else short_at packet 4

-- what was captured of the payload (our "what was captured")
abbrev pub payload_of : List ℕ → List ℕ
payload_of packet = take (declared_length packet) (drop 40 packet)

-- the numbers of the extension headers that are passed: hop-by-hop options, routing, destination options (sections 4.3, 4.4, 4.6)
abbrev pub is_extension : ℕ → Bool
is_extension next = nat_eq next 0 || nat_eq next 43 || nat_eq next 60

-- the number of the header of a fragment (section 4.5)
abbrev pub is_fragment_header : ℕ → Bool
is_fragment_header next = nat_eq next 44

-- the length of an extension header, which its second byte says in units of eight bytes beyond the first eight; its
-- first byte names the header behind it
abbrev pub extension_length : List ℕ → ℕ
extension_length header = (slice_index header 1 + 1) * 8

-- whether the bytes end inside the extension header with which they begin
abbrev pub is_cut : List ℕ → Bool
is_cut bytes = nat_lt (length bytes) 8 || nat_lt (length bytes) (extension_length bytes)

-- the number of a header in the chain, and the bytes from it on
pub record Upper : Type 0 where
  pub next : ℕ
  pub left : List ℕ

-- the first header in the chain that is no extension header; none where an extension header is cut. Each extension header
-- takes one of the turns, of which any number above that of the bytes serves
unfoldable pub upper_within : ℕ → ℕ → List ℕ → Option Upper
upper_within zero next bytes = None
upper_within (suc turns) next bytes =
    if not (is_extension next) then Some (record { next = next; left = bytes }) else
    if is_cut bytes then None else
    upper_within turns (slice_index bytes 0) (drop (extension_length bytes) bytes)

abbrev pub upper_in : ℕ → List ℕ → Option Upper
upper_in next bytes = upper_within (suc (length bytes)) next bytes

-- what the header of a fragment carries, which has eight bytes (our "no fragments")
abbrev pub fragment : List ℕ → Carried
fragment header = if nat_lt (length header) 8 then Short else Fragment

-- what the first header carries that is no extension header, where so many bytes are declared from it on
unfoldable pub by_next : Addr → Addr → ℕ → Upper → Carried
by_next source target declared upper =
    if is_fragment_header upper.next then fragment upper.left else
    if not (is_transport upper.next) then Other else
    Ip upper.next source target declared upper.left

-- what a chain carries behind its extension headers, whose lengths are taken off those of the payload
unfoldable pub above : Addr → Addr → ℕ → ℕ → Option Upper → Carried
above source target declared captured None = Short
above source target declared captured (Some upper) = by_next source target (declared - (captured - length upper.left)) upper

-- what a packet carries (our "the first that holds")
unfoldable pub ipv6 : List ℕ → Carried
ipv6 packet =
    if is_short packet then Short else
    above (V6 (bytes_at packet 8 16)) (V6 (bytes_at packet 24 16)) (declared_length packet) (length (payload_of packet))
    (upper_in (slice_index packet 6) (payload_of packet))
