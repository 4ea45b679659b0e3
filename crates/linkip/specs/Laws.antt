use Rattle.std.specs.Prelude.{◌≡◌, ◌<◌, ◌≤◌, ℕ, ◌+◌, ◌/◌, ◌%◌, true, false, All, List, [], ◌∷◌, ◌++◌, length, take, slice_index, ◌⊎◌, MatchOption, Some}
use Rattle.pcapfile.specs.declared.link.Link.TheVariants.{Ethernet, Cooked, Cooked2}
use Rattle.streamkey.specs.declared.addr.Addr.TheVariants.{V4, V6}
use Rattle.linkip.specs.Fields.{short_at, bytes_at}
use Rattle.linkip.specs.Carried.{Carried, Ip, Fragment, Other, Short, is_transport}
use Rattle.linkip.specs.Ipv4.{ipv4, header_length, total_length, is_fragment}
use Rattle.linkip.specs.Ipv4.{version as ipv4_version}
use Rattle.linkip.specs.Ipv6.{ipv6, upper_in, is_extension, is_fragment_header, is_cut}
use Rattle.linkip.specs.Ipv6.{version as ipv6_version}
use Rattle.linkip.specs.Frames.{Typed, is_tag, behind_tags, by_ether_type, network}
use Rattle.linkip.specs.Chains.{IsChain, IsCutChain, IsWholeChain, joined}

-- What a frame is, put together from its parts: each law says what the definition reads of it.

-- Links

-- the two bytes of an EtherType, and what follows them
abbrev pub type_then : ℕ → List ℕ → List ℕ
type_then ether_type bytes = ether_type / 256 ∷ ether_type % 256 ∷ bytes

-- a frame of each link with an EtherType is its header and what the EtherType is said of
pub record LeadsOn (header : List ℕ) (typed : Typed) : Type 0 where
  pub ethernet : length header ≡ 12 → network Ethernet (header ++ type_then typed.ether_type typed.bytes) ≡ by_ether_type (behind_tags typed)
  pub cooked : length header ≡ 14 → network Cooked (header ++ type_then typed.ether_type typed.bytes) ≡ by_ether_type (behind_tags typed)
  pub cooked2 : length header ≡ 18 → network Cooked2 (type_then typed.ether_type (header ++ typed.bytes)) ≡ by_ether_type (behind_tags typed)

-- a tag: its EtherType, and its two bytes of control
pub record Tag : Type 0 where
  pub ether_type : ℕ
  pub first : ℕ
  pub second : ℕ

abbrev pub IsTag : Tag → Type 0
IsTag tag = is_tag tag.ether_type ≡ true

-- what is said of an EtherType behind tags
abbrev pub tagged : List Tag → Typed → Typed
tagged [] inner = inner
tagged (tag ∷ tags) inner =
    record { ether_type = tag.ether_type; bytes = tag.first ∷ tag.second ∷ type_then (tagged tags inner).ether_type (tagged tags inner).bytes }

-- up to two tags are passed; a third is something else
abbrev pub TagsArePassed : List Tag → Typed → Type 0
TagsArePassed tags inner = length tags ≤ 2 → All IsTag tags → is_tag inner.ether_type ≡ false → behind_tags (tagged tags inner) ≡ Some inner

abbrev pub ThirdTagIsOther : Tag → Tag → Tag → Typed → Type 0
ThirdTagIsOther a b c inner = IsTag a → IsTag b → IsTag c → by_ether_type (behind_tags (tagged (a ∷ b ∷ c ∷ []) inner)) ≡ Other

-- IPv4

-- a whole header of version 4, with its options
pub record IsHeader4 (header : List ℕ) : Type 0 where
  pub version : ipv4_version header ≡ 4
  pub least : 20 ≤ length header
  pub sized : length header ≡ header_length header

-- one that says that it is no fragment and that TCP or UDP follows
pub record IsPlainHeader (header : List ℕ) : Type 0 where
  pub whole : IsHeader4 header
  pub unfragmented : is_fragment header ≡ false
  pub transport : is_transport (slice_index header 9) ≡ true

abbrev pub ipv4_with : List ℕ → ℕ → List ℕ → Carried
ipv4_with header declared body = Ip (slice_index header 9) (V4 (bytes_at header 12 4)) (V4 (bytes_at header 16 4)) declared body

-- a packet of IPv4 is a header, its body, and padding that no one counts; a body that was cut is declared whole; a total
-- length of 0 declares what was captured
pub record Ipv4IsRead (header body rest : List ℕ) : Type 0 where
  pub whole : total_length header ≡ length header + length body
      → ipv4 (header ++ (body ++ rest)) ≡ ipv4_with header (length body) body
  pub cut : total_length header ≡ length header + length body + length rest
      → ipv4 (header ++ body) ≡ ipv4_with header (length body + length rest) body
  pub unsaid : total_length header ≡ 0 → ipv4 (header ++ body) ≡ ipv4_with header (length body) body

-- whether the total length says nothing, or as much as the header has
abbrev pub SaysEnough : List ℕ → Type 0
SaysEnough header = (total_length header ≡ 0) ⊎ (length header ≤ total_length header)

-- a header that is cut anywhere is short, and so is one that is said to end in itself; then a fragment is one, whatever it
-- carries; then another protocol is something else
pub record Ipv4IsSkipped (header rest : List ℕ) : Type 0 where
  pub cut : (n : ℕ) → n < length header → ipv4 (take n header) ≡ Short
  pub contradicts : 0 < total_length header → total_length header < length header → ipv4 (header ++ rest) ≡ Short
  pub fragment : SaysEnough header → is_fragment header ≡ true → ipv4 (header ++ rest) ≡ Fragment
  pub other : SaysEnough header → is_fragment header ≡ false → is_transport (slice_index header 9) ≡ false
      → ipv4 (header ++ rest) ≡ Other

-- IPv6

-- a header of version 6
pub record IsHeader6 (header : List ℕ) : Type 0 where
  pub version : ipv6_version header ≡ 6
  pub sized : length header ≡ 40

abbrev pub payload_length : List ℕ → ℕ
payload_length header = short_at header 4

abbrev pub ipv6_with : List ℕ → ℕ → ℕ → List ℕ → Carried
ipv6_with header proto declared body = Ip proto (V6 (bytes_at header 8 16)) (V6 (bytes_at header 24 16)) declared body

-- a packet of IPv6 is a header, a chain of extension headers, the body, and padding; likewise
pub record Ipv6IsRead (header : List ℕ) (headers : List (List ℕ)) (proto : ℕ) (body rest : List ℕ) : Type 0 where
  pub whole : payload_length header ≡ length (joined headers ++ body) → 0 < payload_length header
      → ipv6 (header ++ ((joined headers ++ body) ++ rest)) ≡ ipv6_with header proto (length body) body
  pub cut : payload_length header ≡ length (joined headers ++ body) + length rest
      → ipv6 (header ++ (joined headers ++ body)) ≡ ipv6_with header proto (length body + length rest) body
  pub unsaid : payload_length header ≡ 0
      → ipv6 (header ++ (joined headers ++ body)) ≡ ipv6_with header proto (length body) body

-- a header that is cut anywhere is short; a chain whose payload length says just what there is is short where an extension
-- header or the header of a fragment is cut, and else what stands behind its extension headers
pub record Ipv6IsSkipped (header : List ℕ) (headers : List (List ℕ)) (last : ℕ) (rest : List ℕ) : Type 0 where
  pub header_cut : (n : ℕ) → n < 40 → ipv6 (take n header) ≡ Short
  pub cut : is_extension last ≡ true → is_cut rest ≡ true → ipv6 (header ++ (joined headers ++ rest)) ≡ Short
  pub fragment : last ≡ 44 → 8 ≤ length rest → ipv6 (header ++ (joined headers ++ rest)) ≡ Fragment
  pub fragment_cut : last ≡ 44 → length rest < 8 → ipv6 (header ++ (joined headers ++ rest)) ≡ Short
  pub other : is_extension last ≡ false → is_fragment_header last ≡ false → is_transport last ≡ false
      → ipv6 (header ++ (joined headers ++ rest)) ≡ Other

-- a chain's first header that is no extension header is the one behind its extension headers, and none is found exactly
-- where one of them is cut
abbrev pub ChainIsPassed : ℕ → List (List ℕ) → ℕ → List ℕ → Type 0
ChainIsPassed first headers last rest = IsChain first headers last → upper_in first (joined headers ++ rest) ≡ upper_in last rest

abbrev pub ChainIsFound : ℕ → List ℕ → Type 0
ChainIsFound next bytes = MatchOption (upper_in next bytes) (IsCutChain next bytes) (λ upper. IsWholeChain next bytes upper)

-- Lending

-- the body of what a frame carries lies in the frame
abbrev pub LiesIn : List ℕ → Carried → Type 0
LiesIn frame (Ip proto source target declared body) = (before : List ℕ) × (after : List ℕ) × (frame ≡ before ++ (body ++ after))
LiesIn frame Fragment = Unit {0}
LiesIn frame Other = Unit {0}
LiesIn frame Short = Unit {0}
