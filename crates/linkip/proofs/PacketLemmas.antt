use Rattle.std.proofs.Common.{◌≡◌, ℕ, zero, suc, ◌-◌, ◌<◌, ◌≤◌, ◌/◌, nat_eq, nat_lt, not, Bool, true, false, List, length, take, drop, Option, Some, None, refl, sym, ◌∙◌, ap, subst, arith}
use Rattle.std.proofs.lemmas.Option.{none-some}
use Rattle.std.proofs.lemmas.List.{length-take}
use Rattle.std.specs.Prelude.{slice_index, cond}
use Rattle.pcapfile.specs.declared.link.Link.{Link}
use Rattle.pcapfile.specs.declared.link.Link.TheVariants.{Ethernet, Raw, Cooked, Cooked2}
use Rattle.streamkey.specs.declared.addr.Addr.{Addr}
use Rattle.streamkey.specs.declared.addr.Addr.TheVariants.{V6}
use Rattle.linkip.specs.Fields.{short_at, bytes_at}
use Rattle.linkip.specs.Carried.{Carried, Short, is_transport, IsWithinDeclared}
use Rattle.linkip.specs.Ipv4.{ipv4, declared_length as ipv4_declared, header_length, is_short as ipv4_short, is_fragment}
use Rattle.linkip.specs.Ipv6.{Upper, is_extension, is_fragment_header, is_cut, extension_length, upper_within, upper_in, is_short, declared_length, payload_of, by_next, above, ipv6}
use Rattle.linkip.specs.Frames.{Typed, behind_tags, by_ether_type, behind_header, by_version, network}
use Rattle.linkip.proofs.ChainLemmas.{upper_within-ends, upper_within-cut, upper_within-passes, shorter}

left_or : List ℕ → Option Upper → List ℕ
left_or bytes None = bytes
left_or bytes (Some upper) = upper.left

-- A packet of IPv6 by its chain.

pub ipv6-cut : (packet : List ℕ) → is_short packet ≡ false → upper_in (slice_index packet 6) (payload_of packet) ≡ None → ipv6 packet ≡ Short
unfolding ipv6 above
ipv6-cut packet whole e = rw (whole, e)

pub ipv6-above : (packet : List ℕ) (upper : Upper) → is_short packet ≡ false → upper_in (slice_index packet 6) (payload_of packet) ≡ Some upper
    → ipv6 packet ≡ by_next (V6 (bytes_at packet 8 16)) (V6 (bytes_at packet 24 16)) (declared_length packet - (length (payload_of packet) - length upper.left)) upper
unfolding ipv6 above
ipv6-above packet upper whole e = rw (whole, e)

-- what is left of a chain is no longer than the chain

left-shorter : (turns next : ℕ) (bytes : List ℕ) (e c : Bool) (upper : Upper) → is_extension next ≡ e → is_cut bytes ≡ c
    → ((n : ℕ) (rest : List ℕ) → upper_within turns n rest ≡ Some upper → length upper.left ≤ length rest)
    → upper_within (suc turns) next bytes ≡ Some upper → length upper.left ≤ length bytes
unfolding left_or
left-shorter turns next bytes false c upper h cut rest is =
    let same : bytes ≡ upper.left = ap (λ (o : Option Upper). left_or bytes o) (sym (upper_within-ends turns next bytes h) ∙ is) in
    rw same (omega arith)
left-shorter turns next bytes true true upper h cut rest is = absurd (none-some upper (sym (upper_within-cut turns next bytes h cut) ∙ is))
left-shorter turns next bytes true false upper h whole rest is =
    let s : length (drop (extension_length bytes) bytes) < length bytes = shorter bytes whole in
    let r : length upper.left ≤ length (drop (extension_length bytes) bytes)
    = rest (slice_index bytes 0) (drop (extension_length bytes) bytes) (sym (upper_within-passes turns next bytes h whole) ∙ is) in
    omega arith

pub upper_within-left : (turns next : ℕ) (bytes : List ℕ) (upper : Upper) → upper_within turns next bytes ≡ Some upper → length upper.left ≤ length bytes
unfolding upper_within
upper_within-left zero next bytes upper is = absurd (none-some upper is)
upper_within-left (suc turns) next bytes upper is =
    left-shorter turns next bytes (is_extension next) (is_cut bytes) upper refl refl (λ n rest e. upper_within-left turns n rest upper e) is

-- no more was captured of a body than is declared for it

cond-within : (b : Bool) (x y : Carried) → IsWithinDeclared x → IsWithinDeclared y → IsWithinDeclared (cond b x y)
cond-within true x y hx hy = hx
cond-within false x y hx hy = hy

length-front : (n : ℕ) (bytes : List ℕ) → length (take n bytes) ≤ n
length-front n bytes = rw length-take (omega arith)

ipv4-within : (packet : List ℕ) → IsWithinDeclared (ipv4 packet)
unfolding ipv4
ipv4-within packet =
    cond-within (ipv4_short packet) _ _ tt (cond-within (is_fragment packet) _ _ tt (cond-within (not (is_transport (slice_index packet 9))) _ _ tt
    (length-front (ipv4_declared packet) (drop (header_length packet) packet))))

by_next-within : (source target : Addr) (declared : ℕ) (upper : Upper) → length upper.left ≤ declared → IsWithinDeclared (by_next source target declared upper)
unfolding by_next
by_next-within source target declared upper h =
    cond-within (is_fragment_header upper.next) _ _ (cond-within (nat_lt (length upper.left) 8) _ _ tt tt)
    (cond-within (not (is_transport upper.next)) _ _ tt h)

above-within : (source target : Addr) (declared next : ℕ) (payload : List ℕ) (o : Option Upper) → length payload ≤ declared → upper_in next payload ≡ o
    → IsWithinDeclared (above source target declared (length payload) o)
unfolding above
above-within source target declared next payload None room is = tt
above-within source target declared next payload (Some upper) room is =
    let s : length upper.left ≤ length payload = upper_within-left (suc (length payload)) next payload upper is in
    by_next-within source target (declared - (length payload - length upper.left)) upper (omega arith)

ipv6-within : (packet : List ℕ) → IsWithinDeclared (ipv6 packet)
unfolding ipv6
ipv6-within packet =
    cond-within (is_short packet) _ _ tt
    (above-within _ _ (declared_length packet) (slice_index packet 6) (payload_of packet) (upper_in (slice_index packet 6) (payload_of packet))
    (length-front (declared_length packet) (drop 40 packet)) refl)

by_ether_type-within : (o : Option Typed) → IsWithinDeclared (by_ether_type o)
unfolding by_ether_type
by_ether_type-within None = tt
by_ether_type-within (Some typed) =
    cond-within (nat_eq typed.ether_type 0x0800) _ _ (ipv4-within typed.bytes)
    (cond-within (nat_eq typed.ether_type 0x86dd) _ _ (ipv6-within typed.bytes) tt)

behind_header-within : (size at : ℕ) (frame : List ℕ) → IsWithinDeclared (behind_header size at frame)
unfolding behind_header
behind_header-within size at frame =
    cond-within (nat_lt (length frame) size) _ _ tt
    (by_ether_type-within (behind_tags (record { ether_type = short_at frame at; bytes = drop size frame })))

by_version-within : (frame : List ℕ) → IsWithinDeclared (by_version frame)
unfolding by_version
by_version-within frame =
    cond-within (nat_eq (length frame) 0) _ _ tt (cond-within (nat_eq (slice_index frame 0 / 16) 4) _ _ (ipv4-within frame)
    (cond-within (nat_eq (slice_index frame 0 / 16) 6) _ _ (ipv6-within frame) tt))

pub network-within : (link : Link) (frame : List ℕ) → IsWithinDeclared (network link frame)
network-within Ethernet frame = behind_header-within 14 12 frame
network-within Raw frame = by_version-within frame
network-within Cooked frame = behind_header-within 16 14 frame
network-within Cooked2 frame = behind_header-within 20 0 frame

pub carried-within : (link : Link) (frame : List ℕ) (answer : Carried) → answer ≡ network link frame → IsWithinDeclared answer
carried-within link frame answer e = let P : Carried → Type 0 = λ a. IsWithinDeclared a in subst P (sym e) (network-within link frame)
