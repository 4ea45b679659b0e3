-- Accepted packets, as the rules of streams see them.
use Rattle.std.specs.Prelude.{ℕ, Bool, true, false, ◌/◌, ◌%◌, ◌==◌, ◌&&◌, List, []}
use Rattle.std.specs.Ordering.{is_eq}
use Rattle.streamkey.specs.declared.addr.Addr.TheVariants.{V4}
use Rattle.streamkey.specs.declared.end.End.{End}
use Rattle.streamkey.specs.declared.key.Key.{Key}
use Rattle.streamkey.specs.declared.proto.Proto.{Proto}
use Rattle.streamkey.specs.declared.proto.Proto.TheVariants.{Tcp, Udp}
use Rattle.streamkey.specs.declared.toward.Toward.{Toward}
use Rattle.streamkey.specs.declared.toward.Toward.TheVariants.{Up, Down}
use Rattle.streamkey.specs.Order.{key_order}

-- an accepted packet: the number of its record, its clock in nanoseconds, its key and way, the sequence number and the
-- flags of TCP, the payload's length by the IP header, and the payload as it was captured
pub record Packet : Type 0 where
  pub number : ℕ
  pub now : ℕ
  pub key : Key
  pub toward : Toward
  pub seq : ℕ
  pub flags : ℕ
  pub declared : ℕ
  pub payload : List ℕ

-- an end that no packet has
abbrev pub no_end : End
no_end = record { addr = V4 []; port = 0 }

-- what stands where an entry names no accepted packet: records are numbered from 1, so no packet has its number
abbrev pub no_packet : Packet
no_packet = record { number = 0; now = 0; key = record { proto = Udp; low = no_end; high = no_end }; toward = Up; seq = 0; flags = 0; declared = 0; payload = [] }

-- whether it is a TCP segment
abbrev pub is_tcp : Packet → Bool
is_tcp p = tcp p.key.proto
  where
    tcp : Proto → Bool
    tcp Tcp = true
    tcp Udp = false

-- FIN, the lowest control bit of a TCP header (RFC 9293, section 3.1)
abbrev pub has_fin : Packet → Bool
has_fin p = is_tcp p && (p.flags % 2 == 1)

-- SYN, the second one
abbrev pub has_syn : Packet → Bool
has_syn p = is_tcp p && ((p.flags / 2) % 2 == 1)

-- RST, the third one
abbrev pub has_rst : Packet → Bool
has_rst p = is_tcp p && ((p.flags / 4) % 2 == 1)

-- whether two packets go the same way
abbrev pub same_toward : Toward → Toward → Bool
same_toward Up Up = true
same_toward Down Down = true
same_toward Up Down = false
same_toward Down Up = false

-- whether two keys are the same
abbrev pub same_key : Key → Key → Bool
same_key a b = is_eq (key_order a b)
