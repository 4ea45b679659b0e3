use Rattle.std.specs.Prelude.{ℕ, ◌+◌, ◌*◌, ◌%◌, ◌^◌, nat_eq, nat_lt, List, [], ◌∷◌, ◌++◌, map, if◌then◌else◌}
use Rattle.std.specs.List.{range_with_len}
use Rattle.byteorder.specs.Endian.{big_bytes}
use Rattle.pcapgen.specs.declared.draws.Drawn.{Drawn}
use Rattle.pcapgen.specs.Flows.{is_tcp}

-- The frame of a made record: Ethernet II, IPv4 (RFC 791) and TCP (RFC 9293) or UDP (RFC 768). No checksum is filled.

-- an end: its address of four bytes, and its port
pub record End : Type 0 where
  pub addr : List ℕ
  pub port : ℕ

abbrev pub client : ℕ → End
client flow = record { addr = 10 ∷ 0 ∷ 0 ∷ (flow + 1) ∷ []; port = 40000 + flow }

-- the servers of the first two of each four flows have port 80
abbrev pub server : ℕ → End
server flow = record { addr = 10 ∷ 1 ∷ 0 ∷ 1 ∷ []; port = (if nat_lt (flow % 4) 2 then 80 else 443) }

-- way 0 goes from client to server
abbrev pub source : Drawn → End
source drawn = if nat_eq drawn.way 0 then client drawn.flow else server drawn.flow

abbrev pub target : Drawn → End
target drawn = if nat_eq drawn.way 0 then server drawn.flow else client drawn.flow

-- the byte of a payload at a position of its direction tells flow, way and position
abbrev pub byte_at : Drawn → ℕ → ℕ
byte_at drawn at = (at + 7 * drawn.flow + 13 * drawn.way) % 251

unfoldable pub payload : Drawn → ℕ → List ℕ
payload drawn begin = map (byte_at drawn) (range_with_len begin drawn.len)

-- the sequence number of position 0 lies near the greatest one, so that flows wrap
abbrev pub sequence : Drawn → ℕ → ℕ
sequence drawn begin = (4294960000 + 100 * drawn.flow + drawn.way + begin) % 2 ^ 32

abbrev pub ports : Drawn → List ℕ
ports drawn = big_bytes 2 (source drawn).port ++ big_bytes 2 (target drawn).port

-- of a header of TCP, what no record changes: acknowledgment, data offset and control bits (ACK, PSH), window, checksum, urgent pointer
abbrev pub tcp_rest : List ℕ
tcp_rest = big_bytes 4 0 ++ 0x50 ∷ 0x18 ∷ [] ++ big_bytes 2 65535 ++ big_bytes 2 0 ++ big_bytes 2 0

-- ports, sequence number and that
unfoldable pub tcp_header : Drawn → ℕ → List ℕ
tcp_header drawn begin = ports drawn ++ big_bytes 4 (sequence drawn begin) ++ tcp_rest

-- ports, length, checksum
unfoldable pub udp_header : Drawn → List ℕ
udp_header drawn = ports drawn ++ big_bytes 2 (8 + drawn.len) ++ big_bytes 2 0

-- version and header length, service, total length, identification, flags and offset, time to live, protocol, checksum, addresses
unfoldable pub ip_header : Drawn → List ℕ
ip_header drawn =
    0x45 ∷ 0 ∷ [] ++ big_bytes 2 (20 + (if is_tcp drawn.flow then 20 else 8) + drawn.len) ++ big_bytes 2 0 ++ big_bytes 2 0
    ++ 64 ∷ (if is_tcp drawn.flow then 6 else 17) ∷ [] ++ big_bytes 2 0 ++ (source drawn).addr ++ (target drawn).addr

-- target, source, type
abbrev pub ethernet_header : List ℕ
ethernet_header = 2 ∷ 0 ∷ 0 ∷ 0 ∷ 0 ∷ 2 ∷ 2 ∷ 0 ∷ 0 ∷ 0 ∷ 0 ∷ 1 ∷ 0x08 ∷ 0 ∷ []

abbrev pub transport_header : Drawn → ℕ → List ℕ
transport_header drawn begin = if is_tcp drawn.flow then tcp_header drawn begin else udp_header drawn

unfoldable pub frame : Drawn → ℕ → List ℕ
frame drawn begin = ethernet_header ++ ip_header drawn ++ transport_header drawn begin ++ payload drawn begin
