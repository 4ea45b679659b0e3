use Rattle.std.proofs.Common.{◌≡◌, ℕ, ◌-◌, ◌/◌, nat_eq, nat_lt, not, cond, Bool, true, false, List, ◌++◌, length, take, drop, Option, Some, None, sym, ◌∙◌, ap, append_assoc}
use Rattle.std.proofs.lemmas.List.{take-append-drop}
use Rattle.std.specs.Prelude.{slice_index, option_and_then, MatchOption}
use Rattle.pcapfile.specs.declared.link.Link.{Link}
use Rattle.pcapfile.specs.declared.link.Link.TheVariants.{Ethernet, Raw, Cooked, Cooked2}
use Rattle.streamkey.specs.declared.addr.Addr.{Addr}
use Rattle.linkip.specs.Fields.{short_at}
use Rattle.linkip.specs.Carried.{Carried, Ip, Fragment, Other, Short, is_transport}
use Rattle.linkip.specs.Ipv4.{ipv4, is_fragment, header_length}
use Rattle.linkip.specs.Ipv4.{is_short as ipv4_short, declared_length as ipv4_declared}
use Rattle.linkip.specs.Ipv6.{Upper, is_short, is_fragment_header, declared_length, payload_of, upper_in, by_next, above, ipv6}
use Rattle.linkip.specs.Frames.{Typed, is_tag, behind_tag, behind_tags, by_ether_type, behind_header, by_version, network}
use Rattle.linkip.specs.Chains.{joined, IsCutChain, IsWholeChain}
use Rattle.linkip.specs.Laws.{LiesIn}
use Rattle.linkip.proofs.ChainLaws.{chain-found}

-- The body of what a frame carries lies in the frame.

cond-lies : (frame : List ℕ) (b : Bool) (x y : Carried) → LiesIn frame x → LiesIn frame y → LiesIn frame (cond b x y)
cond-lies frame true x y hx hy = hx
cond-lies frame false x y hx hy = hy

-- what lies in the back of a frame lies in the frame

lies-behind : (n : ℕ) (frame : List ℕ) (c : Carried) → LiesIn (drop n frame) c → LiesIn frame c
lies-behind n frame (Ip proto source target declared body) (before, after, e) = (
  take n frame ++ before,
  after,
  sym (take-append-drop n frame) ∙ ap (λ (back : List ℕ). take n frame ++ back) e ∙ sym (append_assoc (take n frame) before (body ++ after)),
)
lies-behind n frame Fragment h = tt
lies-behind n frame Other h = tt
lies-behind n frame Short h = tt

-- a part: some bytes of those behind some

part : (n most : ℕ) (frame : List ℕ) → frame ≡ take n frame ++ (take most (drop n frame) ++ drop most (drop n frame))
part n most frame =
    sym (take-append-drop n frame) ∙ ap (λ (back : List ℕ). take n frame ++ back) (sym (take-append-drop most (drop n frame)))

ipv4-lies : (packet : List ℕ) → LiesIn packet (ipv4 packet)
unfolding ipv4
ipv4-lies packet =
    cond-lies packet (ipv4_short packet) _ _ tt (cond-lies packet (is_fragment packet) _ _ tt
    (cond-lies packet (not (is_transport (slice_index packet 9))) _ _ tt
    (take (header_length packet) packet, drop (ipv4_declared packet) (drop (header_length packet) packet), part (header_length packet) (ipv4_declared packet) packet)))

by_next-lies : (frame : List ℕ) (source target : Addr) (declared : ℕ) (upper : Upper) → LiesIn frame (Ip upper.next source target declared upper.left)
    → LiesIn frame (by_next source target declared upper)
unfolding by_next
by_next-lies frame source target declared upper h =
    cond-lies frame (is_fragment_header upper.next) _ _ (cond-lies frame (nat_lt (length upper.left) 8) _ _ tt tt)
    (cond-lies frame (not (is_transport upper.next)) _ _ tt h)

left-lies : (before after payload chain left : List ℕ) (frame : List ℕ) → frame ≡ before ++ (payload ++ after) → payload ≡ chain ++ left
    → frame ≡ (before ++ chain) ++ (left ++ after)
left-lies before after payload chain left frame e p =
    e ∙ ap (λ (l : List ℕ). before ++ (l ++ after)) p ∙ ap (λ (l : List ℕ). before ++ l) (append_assoc chain left after)
    ∙ sym (append_assoc before chain (left ++ after))

above-lies : (packet payload before after : List ℕ) (source target : Addr) (declared next : ℕ) (o : Option Upper) → packet ≡ before ++ (payload ++ after)
    → MatchOption o (IsCutChain next payload) (λ upper. IsWholeChain next payload upper)
    → LiesIn packet (above source target declared (length payload) o)
unfolding above
above-lies packet payload before after source target declared next None e found = tt
above-lies packet payload before after source target declared next (Some upper) e found =
    by_next-lies packet source target (declared - (length payload - length upper.left)) upper (
      before ++ joined found.behind.headers,
      after,
      left-lies before after payload (joined found.behind.headers) upper.left packet e found.behind.whole,
    )

ipv6-lies : (packet : List ℕ) → LiesIn packet (ipv6 packet)
unfolding ipv6
ipv6-lies packet =
    cond-lies packet (is_short packet) _ _ tt
    (above-lies packet (payload_of packet) (take 40 packet) (drop (declared_length packet) (drop 40 packet)) _ _ (declared_length packet)
    (slice_index packet 6) (upper_in (slice_index packet 6) (payload_of packet)) (part 40 (declared_length packet) packet)
    (chain-found (slice_index packet 6) (payload_of packet)))

by_ether_type-lies : (typed : Typed) → LiesIn typed.bytes (by_ether_type (Some typed))
unfolding by_ether_type
by_ether_type-lies typed =
    cond-lies typed.bytes (nat_eq typed.ether_type 0x0800) _ _ (ipv4-lies typed.bytes)
    (cond-lies typed.bytes (nat_eq typed.ether_type 0x86dd) _ _ (ipv6-lies typed.bytes) tt)

no_type-lies : (frame : List ℕ) → LiesIn frame (by_ether_type None)
unfolding by_ether_type
no_type-lies frame = tt

-- what is behind a tag lies in the bytes with the tag

cond-typed : (frame : List ℕ) (b : Bool) (x y : Option Typed) (then : Option Typed → Carried) → LiesIn frame (then x) → LiesIn frame (then y)
    → LiesIn frame (then (cond b x y))
cond-typed frame true x y then hx hy = hx
cond-typed frame false x y then hx hy = hy

tag-lies : (typed : Typed) (then : Option Typed → Carried) → ((t : Typed) → LiesIn t.bytes (then (Some t))) → ((frame : List ℕ) → LiesIn frame (then None))
    → LiesIn typed.bytes (then (behind_tag typed))
unfolding behind_tag
tag-lies typed then some none =
    cond-typed typed.bytes (not (is_tag typed.ether_type)) _ _ then (some typed)
    (cond-typed typed.bytes (nat_lt (length typed.bytes) 4) _ _ then (none typed.bytes)
    (lies-behind 4 typed.bytes (then (Some (record { ether_type = short_at typed.bytes 2; bytes = drop 4 typed.bytes })))
    (some (record { ether_type = short_at typed.bytes 2; bytes = drop 4 typed.bytes }))))

tags-lie : (typed : Typed) → LiesIn typed.bytes (by_ether_type (behind_tags typed))
tags-lie typed =
    tag-lies typed (λ o. by_ether_type (option_and_then behind_tag o))
    (λ t. tag-lies t (λ o. by_ether_type o) by_ether_type-lies no_type-lies) no_type-lies

behind_header-lies : (size at : ℕ) (frame : List ℕ) → LiesIn frame (behind_header size at frame)
unfolding behind_header
behind_header-lies size at frame =
    cond-lies frame (nat_lt (length frame) size) _ _ tt
    (lies-behind size frame _ (tags-lie (record { ether_type = short_at frame at; bytes = drop size frame })))

by_version-lies : (frame : List ℕ) → LiesIn frame (by_version frame)
unfolding by_version
by_version-lies frame =
    cond-lies frame (nat_eq (length frame) 0) _ _ tt (cond-lies frame (nat_eq (slice_index frame 0 / 16) 4) _ _ (ipv4-lies frame)
    (cond-lies frame (nat_eq (slice_index frame 0 / 16) 6) _ _ (ipv6-lies frame) tt))

pub network-lies : (link : Link) (frame : List ℕ) → LiesIn frame (network link frame)
network-lies Ethernet frame = behind_header-lies 14 12 frame
network-lies Raw frame = by_version-lies frame
network-lies Cooked frame = behind_header-lies 16 14 frame
network-lies Cooked2 frame = behind_header-lies 20 0 frame
