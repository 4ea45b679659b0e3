-- Accepted packets, as the rules of streams see them.
use Rattle.std.specs.Prelude.{ℕ, ◌≡◌, ◌≤◌, ◌^◌, Bool, true, false, ◌/◌, ◌%◌, ◌==◌, ◌&&◌, List, length}
use Rattle.streamkey.specs.declared.key.Key.{Key}
use Rattle.streamkey.specs.declared.proto.Proto.{Proto}
use Rattle.streamkey.specs.declared.proto.Proto.TheVariants.{Tcp, Udp}
use Rattle.streamkey.specs.declared.toward.Toward.{Toward}
use Rattle.streamkey.specs.Key.{key_of, source_of, target_of}

-- an accepted packet: the number of its record, its clock in nanoseconds, its key and way, the sequence number and the
-- flags of TCP, the payload's length by the IP header, and the payload as it was captured
pub record Accepted : Type 0 where
  pub number : ℕ
  pub now : ℕ
  pub key : Key
  pub toward : Toward
  pub seq : ℕ
  pub flags : ℕ
  pub declared : ℕ
  pub payload : List ℕ

-- a key and a way are those of a packet between the two ends; an end that sends to itself sends up
abbrev pub IsWay : Key → Toward → Type 0
IsWay key toward = key_of key.proto (source_of key toward) (target_of key toward) ≡ (key, toward)

-- what is true of each packet of a capture: records are counted from 1 and there are at most 2^22 of them, the moments
-- of a capture are below 2^62, and a record has at most 262,144 bytes
pub record IsRead (packet : Accepted) : Type 0 where
  pub numbered : 1 ≤ packet.number
  pub few : packet.number ≤ 2 ^ 22
  pub timed : packet.now ≤ 2 ^ 62
  pub way : IsWay packet.key packet.toward
  pub short : length packet.payload ≤ 262144

abbrev pub is_tcp_proto : Proto → Bool
is_tcp_proto Tcp = true
is_tcp_proto Udp = false

-- whether it is a TCP segment
abbrev pub is_tcp : Accepted → Bool
is_tcp packet = is_tcp_proto packet.key.proto

-- FIN, the lowest control bit of a TCP header (RFC 9293, section 3.1)
abbrev pub has_fin : Accepted → Bool
has_fin packet = is_tcp packet && (packet.flags % 2 == 1)

-- SYN, the second one
abbrev pub has_syn : Accepted → Bool
has_syn packet = is_tcp packet && ((packet.flags / 2) % 2 == 1)

-- RST, the third one
abbrev pub has_rst : Accepted → Bool
has_rst packet = is_tcp packet && ((packet.flags / 4) % 2 == 1)
