use Rattle.std.proofs.Common.{◌≡◌, ℕ, ◌+◌, ◌-◌, ◌/◌, ◌<◌, ◌≤◌, nat_eq, nat_lt, ◌||◌, not, cond, true, false, List, ◌++◌, length, take, drop, Some, ◌∙◌, ap, arith, length-append}
use Rattle.std.proofs.lemmas.Bool.Decides.{nat_tests}
use Rattle.std.proofs.lemmas.List.{drop_at, take_at, take_all}
use Rattle.std.specs.Prelude.{slice_index}
use Rattle.streamkey.specs.declared.addr.Addr.TheVariants.{V6}
use Rattle.linkip.specs.Fields.{bytes_at}
use Rattle.linkip.specs.Carried.{Ip, is_transport}
use Rattle.linkip.specs.Ipv6.{version, is_short, is_extension, is_fragment_header, declared_length, payload_of, upper_in, by_next, above, ipv6}
use Rattle.linkip.specs.Chains.{joined, IsChain}
use Rattle.linkip.specs.Laws.{IsHeader6, payload_length, ipv6_with, Ipv6IsRead}
use Rattle.linkip.proofs.ChainLemmas.{upper_in-ends}
use Rattle.linkip.proofs.ChainLaws.{chain-passed}
use Rattle.linkip.proofs.FieldLemmas.{short_at-front, bytes_at-front, index-front}

-- A packet by its parts

by_next-transport : (packet body source target : List ℕ) (proto declared : ℕ) → is_transport proto ≡ true
    → by_next (V6 source) (V6 target) declared (record { next = proto; left = body }) ≡ Ip proto (V6 source) (V6 target) declared body
unfolding by_next
by_next-transport packet body source target proto declared t =
    let plain : is_fragment_header proto ≡ false = grind (arith, nat_tests) in
    rw (plain, t)

ipv6-by : (packet payload body source target : List ℕ) (next proto declared : ℕ) → is_short packet ≡ false
    → slice_index packet 6 ≡ next → bytes_at packet 8 16 ≡ source → bytes_at packet 24 16 ≡ target
    → declared_length packet ≡ declared → payload_of packet ≡ payload → upper_in next payload ≡ Some (record { next = proto; left = body })
    → is_transport proto ≡ true
    → ipv6 packet ≡ Ip proto (V6 source) (V6 target) (declared - (length payload - length body)) body
unfolding ipv6 above
ipv6-by packet payload body source target next proto declared whole n s g d p u t =
    let up : upper_in (slice_index packet 6) (payload_of packet) ≡ Some (record { next = proto; left = body }) = rw (n, p) u in
    rw (whole, up, s, g, p, d) (by_next-transport packet body source target proto (declared - (length payload - length body)) t)

short-test : (long version : ℕ) → 40 ≤ long → version ≡ 6 → (nat_lt long 40 || not (nat_eq version 6)) ≡ false
short-test long version a b = grind (arith, nat_tests)

pub whole-front : (header rest : List ℕ) → IsHeader6 header → is_short (header ++ rest) ≡ false
unfolding is_short
whole-front header rest six =
    let sized : length header ≡ 40 = six.sized in
    let long : 40 ≤ length (header ++ rest) = rw length-append (omega arith) in
    let kind : version (header ++ rest) ≡ 6 = ap (λ (n : ℕ). n / 16) (index-front header rest 0 (omega arith)) ∙ six.version in
    short-test (length (header ++ rest)) (version (header ++ rest)) long kind

no_extension : (proto : ℕ) → is_transport proto ≡ true → is_extension proto ≡ false
no_extension proto h = grind (arith, nat_tests)

chain-ends : (first proto : ℕ) (headers : List (List ℕ)) (body : List ℕ) → IsChain first headers proto → is_transport proto ≡ true
    → upper_in first (joined headers ++ body) ≡ Some (record { next = proto; left = body })
chain-ends first proto headers body chain t = chain-passed first headers proto body chain ∙ upper_in-ends proto body (no_extension proto t)

ipv6-read : (header rest : List ℕ) (headers : List (List ℕ)) (proto declared : ℕ) (body : List ℕ) → IsHeader6 header
    → IsChain (slice_index header 6) headers proto → is_transport proto ≡ true
    → declared_length (header ++ rest) ≡ declared → take declared rest ≡ joined headers ++ body
    → ipv6 (header ++ rest) ≡ ipv6_with header proto (declared - (length (joined headers ++ body) - length body)) body
ipv6-read header rest headers proto declared body six chain t d front =
    let sized : length header ≡ 40 = six.sized in
    let behind : drop 40 (header ++ rest) ≡ rest = drop_at header rest 40 sized in
    ipv6-by (header ++ rest) (joined headers ++ body) body (bytes_at header 8 16) (bytes_at header 24 16) (slice_index header 6) proto declared
    (whole-front header rest six) (index-front header rest 6 (omega arith)) (bytes_at-front header rest 8 16 (omega arith))
    (bytes_at-front header rest 24 16 (omega arith)) d (rw (behind, d) front) (chain-ends (slice_index header 6) proto headers body chain t) t

-- what is taken off is the chain

chain-off : (chain body : List ℕ) (missing : ℕ) → (length (chain ++ body) + missing) - (length (chain ++ body) - length body) ≡ length body + missing
chain-off chain body missing =
    let both : length (chain ++ body) ≡ length chain + length body = length-append chain body in
    omega arith

ipv6-parts : (header rest : List ℕ) (headers : List (List ℕ)) (proto missing : ℕ) (body : List ℕ) → IsHeader6 header
    → IsChain (slice_index header 6) headers proto → is_transport proto ≡ true
    → declared_length (header ++ rest) ≡ length (joined headers ++ body) + missing
    → take (length (joined headers ++ body) + missing) rest ≡ joined headers ++ body
    → ipv6 (header ++ rest) ≡ ipv6_with header proto (length body + missing) body
ipv6-parts header rest headers proto missing body six chain t d front =
    ipv6-read header rest headers proto (length (joined headers ++ body) + missing) body six chain t d front
    ∙ ap (λ (n : ℕ). ipv6_with header proto n body) (chain-off (joined headers) body missing)

-- the declared length, by what the payload length says

pub declared-front : (header rest : List ℕ) → IsHeader6 header
    → declared_length (header ++ rest) ≡ cond (nat_eq (payload_length header) 0) (length rest) (payload_length header)
declared-front header rest six =
    let sized : length header ≡ 40 = six.sized in
    let long : length (header ++ rest) - 40 ≡ length rest = rw length-append (omega arith) in
    rw (short_at-front header rest 4 (omega arith), long)

said-some : (said long n : ℕ) → said ≡ n → 0 < said → cond (nat_eq said 0) long said ≡ n + 0
said-some said long n e some = grind (arith, nat_tests)

pub said-more : (said long missing : ℕ) → said ≡ long + missing → cond (nat_eq said 0) long said ≡ long + missing
said-more said long missing e = grind (arith, nat_tests)

said-none : (said long : ℕ) → said ≡ 0 → cond (nat_eq said 0) long said ≡ long + 0
said-none said long e = grind (arith, nat_tests)

take-front : (front back : List ℕ) → take (length front + 0) (front ++ back) ≡ front
take-front front back = take_at front back (length front + 0) (omega arith)

pub take-more : (bytes : List ℕ) (more : ℕ) → take (length bytes + more) bytes ≡ bytes
take-more bytes more = take_all (length bytes + more) bytes (omega arith)

no_more : (n : ℕ) → n + 0 ≡ n
no_more n = omega arith

pub ipv6_is_read : (header : List ℕ) (headers : List (List ℕ)) (proto : ℕ) (body rest : List ℕ) → IsHeader6 header
    → IsChain (slice_index header 6) headers proto → is_transport proto ≡ true → Ipv6IsRead header headers proto body rest
ipv6_is_read header headers proto body rest six chain t = record {
  whole = λ said some.
      ipv6-parts header ((joined headers ++ body) ++ rest) headers proto 0 body six chain t
      (declared-front header ((joined headers ++ body) ++ rest) six
      ∙ said-some (payload_length header) (length ((joined headers ++ body) ++ rest)) (length (joined headers ++ body)) said some)
      (take-front (joined headers ++ body) rest)
      ∙ ap (λ (n : ℕ). ipv6_with header proto n body) (no_more (length body));
  cut = λ said.
      ipv6-parts header (joined headers ++ body) headers proto (length rest) body six chain t
      (declared-front header (joined headers ++ body) six ∙ said-more (payload_length header) (length (joined headers ++ body)) (length rest) said)
      (take-more (joined headers ++ body) (length rest));
  unsaid = λ none.
      ipv6-parts header (joined headers ++ body) headers proto 0 body six chain t
      (declared-front header (joined headers ++ body) six ∙ said-none (payload_length header) (length (joined headers ++ body)) none)
      (take-more (joined headers ++ body) 0)
      ∙ ap (λ (n : ℕ). ipv6_with header proto n body) (no_more (length body));
}
