use Rattle.std.specs.Prelude.{ℕ, ◌/◌, nat_eq, nat_lt, ◌||◌, not, Bool, List, length, drop, slice_index, if◌then◌else◌, Option, Some, None, option_and_then}
use Rattle.pcapfile.specs.declared.link.Link.{Link}
use Rattle.pcapfile.specs.declared.link.Link.TheVariants.{Ethernet, Raw, Cooked, Cooked2}
use Rattle.linkip.specs.Fields.{short_at}
use Rattle.linkip.specs.Carried.{Carried, Other, Short}
use Rattle.linkip.specs.Ipv4.{ipv4}
use Rattle.linkip.specs.Ipv6.{ipv6}

-- an EtherType (IEEE 802.3), and the bytes that it is said of
pub record Typed : Type 0 where
  pub ether_type : ℕ
  pub bytes : List ℕ

-- the EtherTypes of a tag (IEEE 802.1Q): of a customer's network, and of a service
abbrev pub is_tag : ℕ → Bool
is_tag ether_type = nat_eq ether_type 0x8100 || nat_eq ether_type 0x88a8

-- what stands behind a tag, where a tag stands there: it has two bytes of control and the next EtherType. None where the
-- bytes end inside it
unfoldable pub behind_tag : Typed → Option Typed
behind_tag typed =
    if not (is_tag typed.ether_type) then Some typed else
    if nat_lt (length typed.bytes) 4 then None else
    Some (record { ether_type = short_at typed.bytes 2; bytes = drop 4 typed.bytes })

-- behind at most two tags (our "two tags")
abbrev pub behind_tags : Typed → Option Typed
behind_tags typed = option_and_then behind_tag (behind_tag typed)

-- what an EtherType (IEEE 802.3) leads to: 0x0800 to IPv4, 0x86DD to IPv6, any other, a third tag too, to something else
unfoldable pub by_ether_type : Option Typed → Carried
by_ether_type None = Short
by_ether_type (Some typed) =
    if nat_eq typed.ether_type 0x0800 then ipv4 typed.bytes else
    if nat_eq typed.ether_type 0x86dd then ipv6 typed.bytes else
    Other

-- what a frame carries that has a link header of so many bytes with an EtherType at a place
unfoldable pub behind_header : ℕ → ℕ → List ℕ → Carried
behind_header size at frame =
    if nat_lt (length frame) size then Short else
    by_ether_type (behind_tags (record { ether_type = short_at frame at; bytes = drop size frame }))

-- what a frame carries that is a packet of the internet protocol (LINKTYPE_RAW), by its version
unfoldable pub by_version : List ℕ → Carried
by_version frame =
    if nat_eq (length frame) 0 then Short else
    if nat_eq (slice_index frame 0 / 16) 4 then ipv4 frame else
    if nat_eq (slice_index frame 0 / 16) 6 then ipv6 frame else
    Other

-- what a frame carries. The headers of a link: Ethernet II, two addresses of six bytes and the EtherType; Linux cooked
-- (LINKTYPE_LINUX_SLL), 16 bytes with the EtherType at the end; its second version (LINKTYPE_LINUX_SLL2), 20 bytes with
-- the EtherType at the start. Raw IP has none
abbrev pub network : Link → List ℕ → Carried
network Ethernet frame = behind_header 14 12 frame
network Cooked frame = behind_header 16 14 frame
network Cooked2 frame = behind_header 20 0 frame
network Raw frame = by_version frame
