use Rattle.std.proofs.Common.{◌≡◌, ℕ, ◌<◌, nat_eq, nat_lt, ◌&&◌, ◌||◌, not, Bool, true, false, ◌⊎◌, inl, inr, List, ◌++◌, length, take, refl, arith}
use Rattle.std.proofs.lemmas.Bool.Decides.{nat_tests}
use Rattle.std.proofs.lemmas.List.{get_or-take, length-take-le}
use Rattle.std.specs.Prelude.{slice_index}
use Rattle.streamkey.specs.declared.addr.Addr.{Addr}
use Rattle.linkip.proofs.FieldLemmas.{short_at-front}
use Rattle.porthdr.specs.declared.skip.Skip.TheVariants as skip
use Rattle.porthdr.specs.Kind.{Skipped}
use Rattle.porthdr.specs.Tcp.{header_length, tcp}
use Rattle.porthdr.specs.Tcp.{is_short as tcp_short}
use Rattle.porthdr.specs.Udp.{said_length, is_short, udp}
use Rattle.porthdr.specs.Laws.{IsSegmentHeader, SegmentIsShort, DatagramIsShort}

-- TCP

tcp-skips : (source target : Addr) (declared : ℕ) (segment : List ℕ) → tcp_short segment ≡ true → tcp source target declared segment ≡ Skipped skip.Short
unfolding tcp
tcp-skips source target declared segment h = rw h

cut-test : (long size : ℕ) → (long < 20) ⊎ (long < size) → (nat_lt long 20 || nat_lt size 20 || nat_lt long size) ≡ true
cut-test long size (inl h) = grind (arith, nat_tests)
cut-test long size (inr h) = grind (arith, nat_tests)

front-cut : (header : List ℕ) (n : ℕ) (b : Bool) → nat_lt n 20 ≡ b → IsSegmentHeader header → n < length header
    → (n < 20) ⊎ (n < header_length (take n header))
front-cut header n true few plain within = inl (grind (arith, nat_tests))
front-cut header n false many plain within =
    let far : 12 < n = grind (arith, nat_tests) in
    let offset : slice_index (take n header) 12 ≡ slice_index header 12 = get_or-take n header 12 0 far in
    inr (rw (offset, ← plain.sized) within)

front-short : (header : List ℕ) (n : ℕ) → IsSegmentHeader header → n < length header → tcp_short (take n header) ≡ true
unfolding tcp_short
front-short header n plain within =
    let long : length (take n header) ≡ n = length-take-le n header (omega arith) in
    cut-test (length (take n header)) (header_length (take n header)) (rw long (front-cut header n (nat_lt n 20) refl plain within))

pub segment_is_short : (source target : Addr) (declared : ℕ) (header : List ℕ) → IsSegmentHeader header → SegmentIsShort source target declared header
segment_is_short source target declared header plain = record {
  cut = λ n within. tcp-skips source target declared (take n header) (front-short header n plain within);
}

-- UDP

udp-skips : (source target : Addr) (declared : ℕ) (datagram : List ℕ) → is_short datagram ≡ true → udp source target declared datagram ≡ Skipped skip.Short
unfolding udp
udp-skips source target declared datagram h = rw h

few-short : (datagram : List ℕ) → length datagram < 8 → is_short datagram ≡ true
unfolding is_short
few-short datagram few = grind (arith, nat_tests)

over-test : (long said : ℕ) → 0 < said → said < 8 → (nat_lt long 8 || (not (nat_eq said 0) && nat_lt said 8)) ≡ true
over-test long said some over = grind (arith, nat_tests)

contradicted : (header rest : List ℕ) → length header ≡ 8 → 0 < said_length header → said_length header < 8 → is_short (header ++ rest) ≡ true
unfolding is_short
contradicted header rest sized some over =
    let same : said_length (header ++ rest) ≡ said_length header = short_at-front header rest 4 (omega arith) in
    over-test (length (header ++ rest)) (said_length (header ++ rest)) (rw same some) (rw same over)

pub datagram_is_short : (source target : Addr) (declared : ℕ) (header rest : List ℕ) → length header ≡ 8
    → DatagramIsShort source target declared header rest
datagram_is_short source target declared header rest sized = record {
  cut = λ n few.
      let long : length (take n header) ≡ n = length-take-le n header (omega arith) in
      udp-skips source target declared (take n header) (few-short (take n header) (rw long few));
  contradicts = λ some over. udp-skips source target declared (header ++ rest) (contradicted header rest sized some over);
}
