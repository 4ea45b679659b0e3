use Rattle.std.specs.Prelude.{ℕ, List, [], ◌∷◌, ◌++◌}
use Rattle.streamkey.specs.declared.key.Key.{Key}
use Rattle.streamkey.specs.declared.proto.Proto.TheVariants.{Tcp, Udp}
use Rattle.linkip.specs.Rows.{first, second, newer_first, newer_second, stations, to_ipv4}

-- Frames written out by hand; those of datagrams are linkip's.

-- the payload "hi"
abbrev pub hi : List ℕ
hi = 0x68 ∷ 0x69 ∷ []

-- 10.0.0.1:5000 and 10.0.0.2:53 over UDP, and the same ports of ::1 and ::2
abbrev pub names : Key
names = record { proto = Udp; low = record { addr = first; port = 5000 }; high = record { addr = second; port = 53 } }

abbrev pub newer_names : Key
newer_names = record { proto = Udp; low = record { addr = newer_first; port = 5000 }; high = record { addr = newer_second; port = 53 } }

-- 10.0.0.1:40000 and 10.0.0.2:80 over TCP
abbrev pub pages : Key
pages = record { proto = Tcp; low = record { addr = first; port = 40000 }; high = record { addr = second; port = 80 } }

-- the bytes of a header of IPv4 for TCP whose total length has these two bytes
abbrev pub ipv4_of_total : ℕ → ℕ → List ℕ
ipv4_of_total high low =
    0x45 ∷ 0 ∷ high ∷ low ∷ 0 ∷ 0 ∷ 0x40 ∷ 0 ∷ 0x40 ∷ 6 ∷ 0 ∷ 0 ∷ 10 ∷ 0 ∷ 0 ∷ 1 ∷ 10 ∷ 0 ∷ 0 ∷ 2 ∷ []

-- the header of a segment from port 40000 to port 80 with the sequence number 1000, FIN and ACK
abbrev pub segment : List ℕ
segment =
    0x9c ∷ 0x40 ∷ 0 ∷ 80 ∷ 0 ∷ 0 ∷ 3 ∷ 0xe8 ∷ 0 ∷ 0 ∷ 0 ∷ 9 ∷ 0x50 ∷ 0x11 ∷ 0x20 ∷ 0 ∷ 0 ∷ 0 ∷ 0 ∷ 0 ∷ []

-- a frame of Ethernet with that segment
abbrev pub frame_of_total : ℕ → ℕ → List ℕ → List ℕ
frame_of_total high low payload = stations ++ to_ipv4 ++ ipv4_of_total high low ++ segment ++ payload

abbrev pub ten : List ℕ
ten = 0 ∷ 1 ∷ 2 ∷ 3 ∷ 4 ∷ 5 ∷ 6 ∷ 7 ∷ 8 ∷ 9 ∷ []
