use Rattle.std.proofs.Common.{◌≡◌, ℕ, zero, suc, ◌+◌, ◌<◌, ◌≤◌, nat_eq, nat_lt, ◌&&◌, ◌||◌, not, true, false, ◌⊎◌, inl, inr, List, ◌++◌, length, take, drop, Option, Some, None, refl, ◌∙◌, ap, arith}
use Rattle.std.proofs.lemmas.Bool.Decides.{nat_tests}
use Rattle.std.proofs.lemmas.List.{drop_at, get_or-take, length-take-le}
use Rattle.std.specs.Prelude.{slice_index}
use Rattle.streamkey.specs.declared.addr.Addr.TheVariants.{V6}
use Rattle.linkip.specs.Fields.{bytes_at}
use Rattle.linkip.specs.Carried.{Carried, Fragment, Other, Short, is_transport}
use Rattle.linkip.specs.Ipv4.{header_length, total_length, is_fragment, ipv4}
use Rattle.linkip.specs.Ipv4.{is_short as ipv4_short, version as ipv4_version}
use Rattle.linkip.specs.Ipv6.{Upper, is_short, is_fragment_header, declared_length, payload_of, upper_in, by_next, above, ipv6}
use Rattle.linkip.specs.Chains.{joined, IsChain}
use Rattle.linkip.specs.Laws.{IsHeader4, Ipv4IsSkipped, IsHeader6, payload_length, Ipv6IsSkipped}
use Rattle.linkip.proofs.ChainLemmas.{upper_in-ends, upper_in-cut}
use Rattle.linkip.proofs.ChainLaws.{chain-passed}
use Rattle.linkip.proofs.FieldLemmas.{index-front}
use Rattle.linkip.proofs.Ipv4Laws.{size-front, total-front, is_fragment-front}
use Rattle.linkip.proofs.Ipv4Laws.{whole-front as four-front}
use Rattle.linkip.proofs.Ipv6Laws.{whole-front, declared-front, said-more, take-more}

-- IPv4

ipv4-cut : (packet : List ℕ) → ipv4_short packet ≡ true → ipv4 packet ≡ Short
unfolding ipv4
ipv4-cut packet h = rw h

ipv4-fragment : (packet : List ℕ) → ipv4_short packet ≡ false → is_fragment packet ≡ true → ipv4 packet ≡ Fragment
unfolding ipv4
ipv4-fragment packet whole h = rw (whole, h)

ipv4-other : (packet : List ℕ) → ipv4_short packet ≡ false → is_fragment packet ≡ false → is_transport (slice_index packet 9) ≡ false → ipv4 packet ≡ Other
unfolding ipv4
ipv4-other packet whole plain h = rw (whole, plain, h)

cut-test : (long version size total : ℕ) → (long < 20) ⊎ (long < size)
    → (nat_lt long 20 || not (nat_eq version 4) || nat_lt size 20 || nat_lt long size || (not (nat_eq total 0) && nat_lt total size)) ≡ true
cut-test long version size total (inl h) = grind (arith, nat_tests)
cut-test long version size total (inr h) = grind (arith, nat_tests)

front-cut : (header : List ℕ) (n : ℕ) → IsHeader4 header → n < length header → (n < 20) ⊎ (n < header_length (take n header))
front-cut header zero four within = inl (omega arith)
front-cut header (suc n) four within =
    let first : slice_index (take (suc n) header) 0 ≡ slice_index header 0 = get_or-take (suc n) header 0 0 (omega arith) in
    inr (rw (first, ← four.sized) within)

front-short : (header : List ℕ) (n : ℕ) → IsHeader4 header → n < length header → ipv4_short (take n header) ≡ true
unfolding ipv4_short
front-short header n four within =
    let long : length (take n header) ≡ n = length-take-le n header (omega arith) in
    cut-test (length (take n header)) (ipv4_version (take n header)) (header_length (take n header)) (total_length (take n header))
    (rw long (front-cut header n four within))

over-test : (long version size total : ℕ) → 0 < total → total < size
    → (nat_lt long 20 || not (nat_eq version 4) || nat_lt size 20 || nat_lt long size || (not (nat_eq total 0) && nat_lt total size)) ≡ true
over-test long version size total some over = grind (arith, nat_tests)

contradicted : (header rest : List ℕ) → IsHeader4 header → 0 < total_length header → total_length header < length header
    → ipv4_short (header ++ rest) ≡ true
unfolding ipv4_short
contradicted header rest four some over =
    let size : header_length (header ++ rest) ≡ length header = size-front header rest four in
    let total : total_length (header ++ rest) ≡ total_length header = total-front header rest four in
    over-test (length (header ++ rest)) (ipv4_version (header ++ rest)) (header_length (header ++ rest)) (total_length (header ++ rest))
    (rw total some) (rw (size, total) over)

pub ipv4_is_skipped : (header rest : List ℕ) → IsHeader4 header → Ipv4IsSkipped header rest
ipv4_is_skipped header rest four =
    let least : 20 ≤ length header = four.least in
    record {
      cut = λ n within. ipv4-cut (take n header) (front-short header n four within);
      contradicts = λ some over. ipv4-cut (header ++ rest) (contradicted header rest four some over);
      fragment = λ said h. ipv4-fragment (header ++ rest) (four-front header rest four said) (is_fragment-front header rest least ∙ h);
      other = λ said plain h.
          ipv4-other (header ++ rest) (four-front header rest four said) (is_fragment-front header rest least ∙ plain)
          (ap (λ (p : ℕ). is_transport p) (index-front header rest 9 (omega arith)) ∙ h);
    }

-- IPv6

ipv6-short : (packet : List ℕ) → is_short packet ≡ true → ipv6 packet ≡ Short
unfolding ipv6
ipv6-short packet h = rw h

few-short : (packet : List ℕ) → length packet < 40 → is_short packet ≡ true
unfolding is_short
few-short packet few = grind (arith, nat_tests)

ipv6-skips : (packet : List ℕ) (skip : Carried) (o : Option Upper) → is_short packet ≡ false → upper_in (slice_index packet 6) (payload_of packet) ≡ o
    → above (V6 (bytes_at packet 8 16)) (V6 (bytes_at packet 24 16)) (declared_length packet) (length (payload_of packet)) o ≡ skip → ipv6 packet ≡ skip
unfolding ipv6
ipv6-skips packet skip o whole u e = rw (whole, u) e

-- the chain of a packet whose payload length says just what follows the header

chain-seen : (header rest : List ℕ) (headers : List (List ℕ)) (last : ℕ) → IsHeader6 header → IsChain (slice_index header 6) headers last
    → payload_length header ≡ length (joined headers ++ rest)
    → upper_in (slice_index (header ++ (joined headers ++ rest)) 6) (payload_of (header ++ (joined headers ++ rest))) ≡ upper_in last rest
chain-seen header rest headers last six chain said =
    let sized : length header ≡ 40 = six.sized in
    let behind : drop 40 (header ++ (joined headers ++ rest)) ≡ joined headers ++ rest = drop_at header (joined headers ++ rest) 40 sized in
    let none : length (joined headers ++ rest) ≡ length (joined headers ++ rest) + 0 = omega arith in
    let declared : declared_length (header ++ (joined headers ++ rest)) ≡ length (joined headers ++ rest) + 0
    = declared-front header (joined headers ++ rest) six ∙ said-more (payload_length header) (length (joined headers ++ rest)) 0 (said ∙ none) in
    let payload : payload_of (header ++ (joined headers ++ rest)) ≡ joined headers ++ rest
    = ap (λ (l : List ℕ). take (declared_length (header ++ (joined headers ++ rest))) l) behind
    ∙ ap (λ (n : ℕ). take n (joined headers ++ rest)) declared ∙ take-more (joined headers ++ rest) 0 in
    ap (λ (n : ℕ). upper_in n (payload_of (header ++ (joined headers ++ rest)))) (index-front header (joined headers ++ rest) 6 (omega arith))
    ∙ ap (λ (l : List ℕ). upper_in (slice_index header 6) l) payload
    ∙ chain-passed (slice_index header 6) headers last rest chain

by_next-fragment : (packet rest source target : List ℕ) (declared captured : ℕ) → 8 ≤ length rest
    → above (V6 source) (V6 target) declared captured (Some (record { next = 44; left = rest })) ≡ Fragment
unfolding above by_next
by_next-fragment packet rest source target declared captured room =
    let long : nat_lt (length rest) 8 ≡ false = grind (arith, nat_tests) in
    rw long

by_next-cut : (packet rest source target : List ℕ) (declared captured : ℕ) → length rest < 8
    → above (V6 source) (V6 target) declared captured (Some (record { next = 44; left = rest })) ≡ Short
unfolding above by_next
by_next-cut packet rest source target declared captured few =
    let long : nat_lt (length rest) 8 ≡ true = grind (arith, nat_tests) in
    rw long

by_next-other : (packet rest source target : List ℕ) (last declared captured : ℕ) → is_fragment_header last ≡ false → is_transport last ≡ false
    → above (V6 source) (V6 target) declared captured (Some (record { next = last; left = rest })) ≡ Other
unfolding above by_next
by_next-other packet rest source target last declared captured plain other = rw (plain, other)

above-none : (source target : List ℕ) (declared captured : ℕ) → above (V6 source) (V6 target) declared captured None ≡ Short
unfolding above
above-none source target declared captured = refl

pub ipv6_is_skipped : (header : List ℕ) (headers : List (List ℕ)) (last : ℕ) (rest : List ℕ) → IsHeader6 header
    → IsChain (slice_index header 6) headers last → payload_length header ≡ length (joined headers ++ rest)
    → Ipv6IsSkipped header headers last rest
ipv6_is_skipped header headers last rest six chain said =
    let packet : List ℕ = header ++ (joined headers ++ rest) in
    let whole : is_short packet ≡ false = whole-front header (joined headers ++ rest) six in
    let seen : upper_in (slice_index packet 6) (payload_of packet) ≡ upper_in last rest = chain-seen header rest headers last six chain said in
    record {
      header_cut = λ n few. ipv6-short (take n header) (few-short (take n header) (rw (length-take-le n header (omega (arith, six.sized))) few));
      cut = λ extension h.
          ipv6-skips packet Short None whole (seen ∙ upper_in-cut last rest extension h) (above-none (bytes_at packet 8 16) (bytes_at packet 24 16) _ _);
      fragment = λ is room.
          ipv6-skips packet Fragment (Some (record { next = 44; left = rest })) whole
          (seen ∙ ap (λ (n : ℕ). upper_in n rest) is ∙ upper_in-ends 44 rest refl)
          (by_next-fragment packet rest (bytes_at packet 8 16) (bytes_at packet 24 16) _ _ room);
      fragment_cut = λ is few.
          ipv6-skips packet Short (Some (record { next = 44; left = rest })) whole
          (seen ∙ ap (λ (n : ℕ). upper_in n rest) is ∙ upper_in-ends 44 rest refl)
          (by_next-cut packet rest (bytes_at packet 8 16) (bytes_at packet 24 16) _ _ few);
      other = λ extension plain h.
          ipv6-skips packet Other (Some (record { next = last; left = rest })) whole (seen ∙ upper_in-ends last rest extension)
          (by_next-other packet rest (bytes_at packet 8 16) (bytes_at packet 24 16) last _ _ plain h);
    }
