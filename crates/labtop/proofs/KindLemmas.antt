use Rattle.std.proofs.Common.{◌≡◌, ℕ, List, refl, ap, sym, ◌∙◌, subst, Bool, true, false, cond, nat_eq}
use Rattle.std.specs.Prelude.{Option, ◌||◌}
use Rattle.capfilter.specs.Expr.{Expr}
use Rattle.datagrams.specs.declared.datagram.Datagram.{Datagram}
use Rattle.datagrams.specs.Capture.{packet_for}
use Rattle.linkip.specs.Carried.{Carried, Ip, Fragment, Other, Short}
use Rattle.linkip.specs.Frames.{network}
use Rattle.pcapfile.specs.declared.link.Link.{Link}
use Rattle.porthdr.specs.declared.skip.Skip.{Skip}
use Rattle.porthdr.specs.Kind.{Kind, Accepted, Skipped, end_at}
use Rattle.porthdr.specs.Tcp.{control_bits, sequence_number, tcp}
use Rattle.porthdr.specs.Tcp.{is_short as tcp_short}
use Rattle.porthdr.specs.Transport.{transport, kind_of}
use Rattle.porthdr.specs.Udp.{is_short, udp}
use Rattle.streamdefs.specs.Packet.{Packet, is_tcp}
use Rattle.streamkey.specs.Key.{key_of}
use Rattle.streamkey.specs.Order.{end_before}
use Rattle.streamkey.specs.declared.addr.Addr.{Addr}
use Rattle.streamkey.specs.declared.end.End.{End}
use Rattle.streamkey.specs.declared.key.Key.{Key}
use Rattle.streamkey.specs.declared.proto.Proto.{Proto}
use Rattle.streamkey.specs.declared.proto.Proto.TheVariants.{Tcp, Udp}
use Rattle.streamkey.specs.declared.toward.Toward.{Toward}
use Rattle.streamkey.specs.declared.toward.Toward.TheVariants.{Up, Down}
use Rattle.labtop.specs.declared.found.Found.TheVariants as found
use Rattle.labtop.specs.Found.{IsFound}
use Rattle.labtop.specs.Scapconf.{Fate, Taken, Filtered, fate_of, has_segment, holds, packet_in}

-- A datagram has no sequence number and no flags.

abbrev PlainOf : Proto → ℕ → ℕ → Type 0
PlainOf Udp seq flags = (seq ≡ 0) × (flags ≡ 0)
PlainOf Tcp seq flags = Unit {0}

abbrev pub IsPlain : Kind → Type 0
IsPlain (Accepted key toward seq flags declared payload) = PlainOf key.proto seq flags
IsPlain (Skipped why) = Unit {0}

cond-plain : (b : Bool) (x y : Kind) → IsPlain x → IsPlain y → IsPlain (cond b x y)
cond-plain true x y hx hy = hx
cond-plain false x y hx hy = hy

key_of-proto : (proto : Proto) (source target : End) → (key_of proto source target).0.proto ≡ proto
key_of-proto proto source target = either (end_before target source)
  where
    either : (b : Bool) → (cond {A = Key × Toward} b (record { proto = proto; low = target; high = source }, Down) (record { proto = proto; low = source; high = target }, Up)).0.proto ≡ proto
    either true = refl
    either false = refl

tcp-plain : (source target : Addr) (declared : ℕ) (body : List ℕ) → IsPlain (tcp source target declared body)
unfolding tcp
tcp-plain source target declared body =
    cond-plain (tcp_short body) _ _ tt
    (subst (λ (p : Proto). PlainOf p (sequence_number body) (control_bits body)) (sym (key_of-proto Tcp (end_at source body 0) (end_at target body 2))) tt)

udp-plain : (source target : Addr) (declared : ℕ) (body : List ℕ) → IsPlain (udp source target declared body)
unfolding udp
udp-plain source target declared body =
    cond-plain (is_short body) _ _ tt
    (subst (λ (p : Proto). PlainOf p 0 0) (sym (key_of-proto Udp (end_at source body 0) (end_at target body 2))) (refl, refl))

transport-plain : (c : Carried) → IsPlain (transport c)
transport-plain (Ip proto source target declared body) =
    cond-plain (nat_eq proto 6) _ _ (tcp-plain source target declared body)
    (cond-plain (nat_eq proto 17) _ _ (udp-plain source target declared body) tt)
transport-plain Fragment = tt
transport-plain Other = tt
transport-plain Short = tt

pub kind_of-plain : (link : Link) (frame : List ℕ) → IsPlain (kind_of link frame)
kind_of-plain link frame = transport-plain (network link frame)

-- What is found of a record, by its kind.

is_tcp-by : (p : Packet) (proto : Proto) (b : Bool) → p.key.proto ≡ proto → is_tcp (record p { key = record p.key { proto = proto } }) ≡ b → (is_tcp p || false) ≡ b
is_tcp-by p proto b e h =
    or_false (is_tcp p) ∙ ap (λ (q : Proto). is_tcp (record p { key = record p.key { proto = q } })) e ∙ h
  where
    or_false : (c : Bool) → (c || false) ≡ c
    or_false true = refl
    or_false false = refl

taken_at : (filter : Option Expr) (key : Key) (toward : Toward) (p : Packet) → holds filter key toward ≡ true → cond (holds filter key toward) (Taken p) Filtered ≡ Taken p
taken_at filter key toward p passes = ap (λ (b : Bool). cond b (Taken p) Filtered) passes

plain_at : (proto : Proto) (seq flags : ℕ) → proto ≡ Udp → PlainOf proto seq flags → (seq ≡ 0) × (flags ≡ 0)
plain_at proto seq flags e h = subst (λ (p : Proto). PlainOf p seq flags) e h

pub found_datagram : (filter : Option Expr) (n c : ℕ) (k : Kind) (key : Key) (toward : Toward) (seq flags declared : ℕ) (payload : List ℕ) (d : Datagram)
    → Accepted key toward seq flags declared payload ≡ k → IsPlain k → key.proto ≡ Udp → holds filter key toward ≡ true
    → packet_for d ≡ record { number = n; now = c; key = key; toward = toward; seq = 0; flags = 0; declared = declared; payload = payload }
    → IsFound (found.Taken d) (fate_of filter n c k)
found_datagram filter n c k key toward seq flags declared payload d e plain is_udp passes same =
    let zeros : (seq ≡ 0) × (flags ≡ 0) = plain_at key.proto seq flags is_udp (subst IsPlain (sym e) plain) in
    let p : Packet = record { number = n; now = c; key = key; toward = toward; seq = seq; flags = flags; declared = declared; payload = payload } in
    let packet : packet_for d ≡ p = same ∙ (λ i. record { number = n; now = c; key = key; toward = toward; seq = sym zeros.0 i; flags = sym zeros.1 i; declared = declared; payload = payload }) in
    subst (λ (x : Kind). IsFound (found.Taken d) (fate_of filter n c x)) e (record {
      is = ap Taken packet ∙ sym (taken_at filter key toward p passes);
      datagram = ap (λ (x : Fate). has_segment (packet_in x)) (taken_at filter key toward p passes) ∙ is_tcp-by p Udp false is_udp refl;
    })

pub segment_of : (filter : Option Expr) (n c : ℕ) (k : Kind) (key : Key) (toward : Toward) (seq flags declared : ℕ) (payload : List ℕ)
    → Accepted key toward seq flags declared payload ≡ k → key.proto ≡ Tcp → holds filter key toward ≡ true
    → has_segment (packet_in (fate_of filter n c k)) ≡ true
segment_of filter n c k key toward seq flags declared payload e segment passes =
    let p : Packet = record { number = n; now = c; key = key; toward = toward; seq = seq; flags = flags; declared = declared; payload = payload } in
    subst (λ (x : Kind). has_segment (packet_in (fate_of filter n c x)) ≡ true) e
    (ap (λ (x : Fate). has_segment (packet_in x)) (taken_at filter key toward p passes) ∙ is_tcp-by p Tcp true segment refl)

pub found_filtered : (filter : Option Expr) (n c : ℕ) (k : Kind) (key : Key) (toward : Toward) (seq flags declared : ℕ) (payload : List ℕ)
    → Accepted key toward seq flags declared payload ≡ k → holds filter key toward ≡ false → IsFound found.Filtered (fate_of filter n c k)
found_filtered filter n c k key toward seq flags declared payload e refused =
    let p : Packet = record { number = n; now = c; key = key; toward = toward; seq = seq; flags = flags; declared = declared; payload = payload } in
    let passed : cond (holds filter key toward) (Taken p) Filtered ≡ Filtered = ap (λ (b : Bool). cond b (Taken p) Filtered) refused in
    subst (λ (x : Kind). IsFound found.Filtered (fate_of filter n c x)) e
    (record { is = sym passed; datagram = ap (λ (x : Fate). has_segment (packet_in x)) passed })

pub found_passed : (filter : Option Expr) (n c : ℕ) (k : Kind) (why : Skip) → Skipped why ≡ k → IsFound (found.Passed why) (fate_of filter n c k)
found_passed filter n c k why e = subst (λ (x : Kind). IsFound (found.Passed why) (fate_of filter n c x)) e (record { is = refl; datagram = refl })
