use Rattle.std.specs.Prelude.{◌≡◌, ◌<◌, ◌≤◌, ℕ, ◌+◌, ◌-◌, List, ◌++◌, length, take}
use Rattle.streamkey.specs.declared.addr.Addr.{Addr}
use Rattle.streamkey.specs.declared.proto.Proto.TheVariants.{Tcp, Udp}
use Rattle.streamkey.specs.Key.{key_of}
use Rattle.porthdr.specs.declared.skip.Skip.TheVariants as skip
use Rattle.porthdr.specs.Kind.{Kind, Accepted, Skipped, accepted, end_at}
use Rattle.porthdr.specs.Tcp.{header_length, sequence_number, control_bits, tcp}
use Rattle.porthdr.specs.Udp.{said_length, udp}

-- What a body is, put together from its parts: each law says what the definition reads of it.

-- a whole header of TCP, with its options
pub record IsSegmentHeader (header : List ℕ) : Type 0 where
  pub least : 20 ≤ length header
  pub sized : length header ≡ header_length header

-- a segment is a header and a payload, of which so much is declared as of the body beyond the header
abbrev pub SegmentIsRead : Addr → Addr → ℕ → List ℕ → List ℕ → Type 0
SegmentIsRead source target declared header payload =
    tcp source target declared (header ++ payload)
    ≡ accepted (key_of Tcp (end_at source header 0) (end_at target header 2)) (sequence_number header) (control_bits header)
    (declared - length header) payload

abbrev pub datagram_with : Addr → Addr → List ℕ → ℕ → List ℕ → Kind
datagram_with source target header declared payload =
    accepted (key_of Udp (end_at source header 0) (end_at target header 2)) 0 0 declared payload

-- a datagram is a header of eight bytes, a payload of which some may be cut, and padding that no one counts; a length of 0,
-- and one above what is declared for the body, declares that
pub record DatagramIsRead (source target : Addr) (declared : ℕ) (header payload rest : List ℕ) : Type 0 where
  pub whole : said_length header ≡ 8 + length payload → 8 + length payload ≤ declared
      → udp source target declared (header ++ (payload ++ rest)) ≡ datagram_with source target header (length payload) payload
  pub cut : said_length header ≡ 8 + length payload + length rest → 8 + length payload + length rest ≤ declared
      → udp source target declared (header ++ payload) ≡ datagram_with source target header (length payload + length rest) payload
  pub unsaid : said_length header ≡ 0 → 8 + length payload ≤ declared
      → udp source target declared (header ++ payload) ≡ datagram_with source target header (declared - 8) payload
  pub beyond : declared < said_length header → 8 + length payload ≤ declared
      → udp source target declared (header ++ payload) ≡ datagram_with source target header (declared - 8) payload

-- a header that is cut anywhere is short, and so is one of UDP that is said to end in itself
pub record SegmentIsShort (source target : Addr) (declared : ℕ) (header : List ℕ) : Type 0 where
  pub cut : (n : ℕ) → n < length header → tcp source target declared (take n header) ≡ Skipped skip.Short

pub record DatagramIsShort (source target : Addr) (declared : ℕ) (header rest : List ℕ) : Type 0 where
  pub cut : (n : ℕ) → n < 8 → udp source target declared (take n header) ≡ Skipped skip.Short
  pub contradicts : 0 < said_length header → said_length header < 8 → udp source target declared (header ++ rest) ≡ Skipped skip.Short

-- the payload of a record lies in its frame
abbrev pub PayloadLiesIn : List ℕ → Kind → Type 0
PayloadLiesIn frame (Accepted key toward seq flags declared payload) = (before : List ℕ) × (after : List ℕ) × (frame ≡ before ++ (payload ++ after))
PayloadLiesIn frame (Skipped skip) = Unit {0}
