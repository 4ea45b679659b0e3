use Rattle.std.specs.Prelude.{ℕ, List, [], ◌∷◌, ◌++◌}
use Rattle.streamkey.specs.declared.addr.Addr.{Addr}
use Rattle.streamkey.specs.declared.addr.Addr.TheVariants.{V4, V6}

-- Frames written out by hand.

-- a datagram of UDP from port 5000 to port 53 with the payload "hi"
abbrev pub datagram : List ℕ
datagram = 0x13 ∷ 0x88 ∷ 0 ∷ 0x35 ∷ 0 ∷ 0x0a ∷ 0 ∷ 0 ∷ 0x68 ∷ 0x69 ∷ []

-- the header of its packet of IPv4, from 10.0.0.1 to 10.0.0.2
abbrev pub ipv4_header : List ℕ
ipv4_header =
    0x45 ∷ 0 ∷ 0 ∷ 0x1e ∷ 0 ∷ 0 ∷ 0 ∷ 0 ∷ 0x40 ∷ 0x11 ∷ 0 ∷ 0 ∷ 10 ∷ 0 ∷ 0 ∷ 1 ∷ 10 ∷ 0 ∷ 0 ∷ 2 ∷ []

abbrev pub ipv4_packet : List ℕ
ipv4_packet = ipv4_header ++ datagram

abbrev pub first : Addr
first = V4 (10 ∷ 0 ∷ 0 ∷ 1 ∷ [])

abbrev pub second : Addr
second = V4 (10 ∷ 0 ∷ 0 ∷ 2 ∷ [])

-- two addresses of Ethernet
abbrev pub stations : List ℕ
stations = 2 ∷ 0 ∷ 0 ∷ 0 ∷ 0 ∷ 2 ∷ 2 ∷ 0 ∷ 0 ∷ 0 ∷ 0 ∷ 1 ∷ []

-- the EtherTypes of IPv4 and IPv6, and tags of a customer and of a service
abbrev pub to_ipv4 : List ℕ
to_ipv4 = 8 ∷ 0 ∷ []

abbrev pub customer_tag : List ℕ
customer_tag = 0x81 ∷ 0 ∷ 0 ∷ 5 ∷ []

abbrev pub service_tag : List ℕ
service_tag = 0x88 ∷ 0xa8 ∷ 0 ∷ 6 ∷ []

-- 14 and 18 bytes of any content
abbrev pub fourteen : List ℕ
fourteen = 0 ∷ 4 ∷ 3 ∷ 4 ∷ 0 ∷ 6 ∷ 2 ∷ 0 ∷ 0 ∷ 0 ∷ 0 ∷ 1 ∷ 0x86 ∷ 0xdd ∷ []

abbrev pub eighteen : List ℕ
eighteen = fourteen ++ 0x81 ∷ 0 ∷ 7 ∷ 7 ∷ []

-- the header of a packet of IPv6 with a payload of 18 bytes, from ::1 to ::2
abbrev pub zeros : List ℕ
zeros = 0 ∷ 0 ∷ 0 ∷ 0 ∷ 0 ∷ 0 ∷ 0 ∷ 0 ∷ 0 ∷ 0 ∷ 0 ∷ 0 ∷ 0 ∷ 0 ∷ 0 ∷ []

abbrev pub ipv6_header : List ℕ
ipv6_header = 0x60 ∷ 0 ∷ 0 ∷ 0 ∷ 0 ∷ 0x12 ∷ 0 ∷ 0x40 ∷ zeros ++ 1 ∷ zeros ++ 2 ∷ []

-- hop-by-hop options with UDP behind them
abbrev pub options : List ℕ
options = 0x11 ∷ 0 ∷ 1 ∷ 4 ∷ 0 ∷ 0 ∷ 0 ∷ 0 ∷ []

abbrev pub ipv6_packet : List ℕ
ipv6_packet = ipv6_header ++ options ++ datagram

abbrev pub newer_first : Addr
newer_first = V6 (zeros ++ 1 ∷ [])

abbrev pub newer_second : Addr
newer_second = V6 (zeros ++ 2 ∷ [])
