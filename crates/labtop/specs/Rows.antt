use Rattle.std.specs.Prelude.{ℕ, ◌/◌, ◌%◌, List, [], ◌∷◌, ◌++◌, codes, Some}
use Rattle.capfilter.specs.Expr.{Test}
use Rattle.capfilter.specs.declared.prim.Primitive.{Primitive}
use Rattle.streamkey.specs.declared.addr.Addr.TheVariants.{V4}
use Rattle.streamkey.specs.declared.proto.Proto.TheVariants.{Udp}
use Rattle.streamkey.specs.declared.toward.Toward.TheVariants.{Up}
use Rattle.streamdefs.specs.Packet.{Packet}
use Rattle.scapconf.specs.declared.settings.Settings.{Settings}
use Rattle.scapconf.specs.Defaults.{default_settings}

-- small captures, written out by hand

-- the file header: little-endian, microseconds, version 2.4, Ethernet
unfoldable pub file_head : List ℕ
file_head =
    0xd4 ∷ 0xc3 ∷ 0xb2 ∷ 0xa1 ∷ 0x02 ∷ 0x00 ∷ 0x04 ∷ 0x00 ∷ 0x00 ∷ 0x00 ∷ 0x00 ∷ 0x00 ∷ 0x00 ∷ 0x00 ∷ 0x00 ∷ 0x00 ∷ 0x00 ∷ 0x00 ∷ 0x04 ∷ 0x00 ∷ 0x01 ∷ 0x00 ∷ 0x00 ∷ 0x00 ∷ []

-- a record's header: so many s and 5 us, and so many bytes, both numbers below 65,536
unfoldable pub record_head : (second size : ℕ) → List ℕ
record_head second size =
    second % 256 ∷ second / 256 ∷ 0x00 ∷ 0x00 ∷ 0x05 ∷ 0x00 ∷ 0x00 ∷ 0x00 ∷ size % 256 ∷ size / 256 ∷ 0x00 ∷ 0x00 ∷ size % 256 ∷ size / 256 ∷ 0x00 ∷ 0x00 ∷ []

-- the two addresses of an Ethernet frame
unfoldable pub ethernet_addresses : List ℕ
ethernet_addresses = 0x02 ∷ 0x00 ∷ 0x00 ∷ 0x00 ∷ 0x00 ∷ 0x02 ∷ 0x02 ∷ 0x00 ∷ 0x00 ∷ 0x00 ∷ 0x00 ∷ 0x01 ∷ []

-- IPv4 from 10.0.0.1 to 10.0.0.2, UDP from port 5000 to port 53, and the two bytes "hi"
unfoldable pub ipv4_datagram : List ℕ
ipv4_datagram =
    0x45 ∷ 0x00 ∷ 0x00 ∷ 0x1e ∷ 0x00 ∷ 0x00 ∷ 0x00 ∷ 0x00 ∷ 0x40 ∷ 0x11 ∷ 0x00 ∷ 0x00 ∷ 0x0a ∷ 0x00 ∷ 0x00 ∷ 0x01 ∷ 0x0a ∷ 0x00 ∷ 0x00 ∷ 0x02
    ∷ 0x13 ∷ 0x88 ∷ 0x00 ∷ 0x35 ∷ 0x00 ∷ 0x0a ∷ 0x00 ∷ 0x00 ∷ 0x68 ∷ 0x69 ∷ []

-- the first fragment of it
unfoldable pub ipv4_fragment : List ℕ
ipv4_fragment =
    0x45 ∷ 0x00 ∷ 0x00 ∷ 0x1e ∷ 0x00 ∷ 0x00 ∷ 0x20 ∷ 0x00 ∷ 0x40 ∷ 0x11 ∷ 0x00 ∷ 0x00 ∷ 0x0a ∷ 0x00 ∷ 0x00 ∷ 0x01 ∷ 0x0a ∷ 0x00 ∷ 0x00 ∷ 0x02
    ∷ 0x13 ∷ 0x88 ∷ 0x00 ∷ 0x35 ∷ 0x00 ∷ 0x0a ∷ 0x00 ∷ 0x00 ∷ 0x68 ∷ 0x69 ∷ []

-- IPv4 between these addresses, TCP between these ports: a SYN without options
unfoldable pub ipv4_segment : List ℕ
ipv4_segment =
    0x45 ∷ 0x00 ∷ 0x00 ∷ 0x28 ∷ 0x00 ∷ 0x00 ∷ 0x00 ∷ 0x00 ∷ 0x40 ∷ 0x06 ∷ 0x00 ∷ 0x00 ∷ 0x0a ∷ 0x00 ∷ 0x00 ∷ 0x01 ∷ 0x0a ∷ 0x00 ∷ 0x00 ∷ 0x02
    ∷ 0x13 ∷ 0x88 ∷ 0x00 ∷ 0x35 ∷ 0x00 ∷ 0x00 ∷ 0x03 ∷ 0xe8 ∷ 0x00 ∷ 0x00 ∷ 0x00 ∷ 0x00 ∷ 0x50 ∷ 0x02 ∷ 0xff ∷ 0xff ∷ 0x00 ∷ 0x00 ∷ 0x00 ∷ 0x00 ∷ []

-- a record with a packet of 30 bytes, said to be of that type: 0x0800 is IPv4, 0x0806 ARP, 0x86dd IPv6
abbrev pub record_of : (second : ℕ) → (ether_type packet : List ℕ) → List ℕ
record_of second ether_type packet = record_head second 44 ++ ethernet_addresses ++ ether_type ++ packet

abbrev pub ipv4_type : List ℕ
ipv4_type = 0x08 ∷ 0x00 ∷ []

abbrev pub arp_type : List ℕ
arp_type = 0x08 ∷ 0x06 ∷ []

abbrev pub ipv6_type : List ℕ
ipv6_type = 0x86 ∷ 0xdd ∷ []

-- captures
abbrev pub one_datagram : List ℕ
one_datagram = file_head ++ record_of 1 ipv4_type ipv4_datagram

abbrev pub one_segment : List ℕ
one_segment = file_head ++ record_head 1 54 ++ ethernet_addresses ++ ipv4_type ++ ipv4_segment

-- a datagram, another protocol that comes late, a fragment, the datagram again, and a packet of version 4 that is said to be one
-- of version 6
abbrev pub mixed : List ℕ
mixed =
    file_head ++ record_of 1 ipv4_type ipv4_datagram ++ record_of 9 arp_type ipv4_datagram ++ record_of 2 ipv4_type ipv4_fragment
    ++ record_of 2 ipv4_type ipv4_datagram ++ record_of 3 ipv6_type ipv4_datagram

-- a datagram in front of another protocol so many seconds behind the first one's second
abbrev pub late : ℕ → List ℕ
late second = file_head ++ record_of 1 ipv4_type ipv4_datagram ++ record_of second arp_type ipv4_datagram

-- another protocol in front of the datagram
abbrev pub begins_skipped : ℕ → List ℕ
begins_skipped second = file_head ++ record_of 1 arp_type ipv4_datagram ++ record_of second ipv4_type ipv4_datagram

-- the packet of the datagram, as the record with that number and clock
abbrev pub packet_at : (number now : ℕ) → Packet
packet_at number now = record {
  number = number;
  now = now;
  key = record {
    proto = Udp;
    low = record { addr = V4 (10 ∷ 0 ∷ 0 ∷ 1 ∷ []); port = 5000 };
    high = record { addr = V4 (10 ∷ 0 ∷ 0 ∷ 2 ∷ []); port = 53 };
  };
  toward = Up;
  seq = 0;
  flags = 0;
  declared = 2;
  payload = codes "hi";
}

-- the default settings, with a filter
abbrev pub filtered_by : Primitive → Settings
filtered_by prim = record default_settings { filter = Some (Test prim) }
