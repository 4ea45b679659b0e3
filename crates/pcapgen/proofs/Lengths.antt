use Rattle.std.proofs.Common.{◌≡◌, ℕ, ◌+◌, ◌≤◌, Bool, true, false, if◌then◌else◌, List, ◌++◌, length, nat_eq, refl, arith, length-append}
use Rattle.std.proofs.lemmas.List.FromFn.{length-map-range_with_len}
use Rattle.pcapfile.specs.Written.{written_frame}
use Rattle.pcapgen.specs.declared.draws.Drawn.{Drawn}
use Rattle.pcapgen.specs.Flows.{is_tcp}
use Rattle.pcapgen.specs.Frame.{byte_at, client, server, tcp_header, udp_header, ip_header, ethernet_header, transport_header, payload, frame}

-- How long a made frame is.

four_bytes : (b : Bool) (flow : ℕ) → length (if b then client flow else server flow).addr ≡ 4
four_bytes b flow = elim b as (λ v. length (if v then client flow else server flow).addr ≡ 4) [ true ↦ refl | false ↦ refl ]

four_bytes_back : (b : Bool) (flow : ℕ) → length (if b then server flow else client flow).addr ≡ 4
four_bytes_back b flow = elim b as (λ v. length (if v then server flow else client flow).addr ≡ 4) [ true ↦ refl | false ↦ refl ]

length-ip : (d : Drawn) → length (ip_header d) ≡ 20
unfolding ip_header
length-ip d =
    simp (length-append, four_bytes (nat_eq d.way 0) d.flow, four_bytes_back (nat_eq d.way 0) d.flow) refl

length-tcp : (d : Drawn) (begin : ℕ) → length (tcp_header d begin) ≡ 20
unfolding tcp_header
length-tcp d begin = simp length-append refl

length-udp : (d : Drawn) → length (udp_header d) ≡ 8
unfolding udp_header
length-udp d = simp length-append refl

short_transport : (b : Bool) (d : Drawn) (begin : ℕ) → length (if b then tcp_header d begin else udp_header d) ≤ 20
short_transport b d begin =
    elim b as (λ v. length (if v then tcp_header d begin else udp_header d) ≤ 20) [ true ↦ omega (arith, length-tcp d begin) | false ↦ omega (arith, length-udp d) ]

pub frame_short : (d : Drawn) (begin : ℕ) → d.len ≤ 200 → length (frame d begin) ≤ 254
unfolding frame payload
frame_short d begin h =
    let all : List ℕ = ethernet_header ++ ip_header d ++ transport_header d begin in
    let one : length (frame d begin) ≡ length all + length (payload d begin) = length-append all (payload d begin) in
    let two : length all ≡ length (ethernet_header ++ ip_header d) + length (transport_header d begin) = length-append (ethernet_header ++ ip_header d) (transport_header d begin) in
    let three : length (ethernet_header ++ ip_header d) ≡ 14 + length (ip_header d) = length-append ethernet_header (ip_header d) in
    let four : length (payload d begin) ≡ d.len = length-map-range_with_len (byte_at d) begin d.len in
    omega (arith, one, two, three, four, length-ip d, short_transport (is_tcp d.flow) d begin, h)

-- a record's header has 16 bytes
pub record_short : (seconds fraction : ℕ) (bytes : List ℕ) → length bytes ≤ 254 → length (written_frame seconds fraction bytes) ≤ 270
record_short seconds fraction bytes h =
    let all : length (written_frame seconds fraction bytes) ≡ 16 + length bytes = simp length-append refl in
    omega (arith, all, h)
