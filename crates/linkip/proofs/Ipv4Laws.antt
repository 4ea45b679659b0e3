use Rattle.std.proofs.Common.{◌≡◌, ℕ, ◌+◌, ◌-◌, ◌*◌, ◌/◌, ◌%◌, ◌≤◌, nat_eq, nat_lt, ◌&&◌, ◌||◌, not, true, false, ◌⊎◌, inl, inr, cond, List, ◌++◌, length, take, drop, refl, sym, ◌∙◌, ap, arith, length-append}
use Rattle.std.proofs.lemmas.Bool.Decides.{nat_tests}
use Rattle.std.proofs.lemmas.List.{drop_at, take_at, take_all}
use Rattle.std.specs.Prelude.{slice_index}
use Rattle.streamkey.specs.declared.addr.Addr.TheVariants.{V4}
use Rattle.linkip.specs.Fields.{bytes_at}
use Rattle.linkip.specs.Carried.{Ip, is_transport}
use Rattle.linkip.specs.Ipv4.{version, header_length, total_length, is_short, is_fragment, declared_length, ipv4}
use Rattle.linkip.proofs.FieldLemmas.{short_at-front, bytes_at-front, index-front}
use Rattle.linkip.specs.Laws.{IsHeader4, IsPlainHeader, SaysEnough, ipv4_with, Ipv4IsRead}

-- A packet by its parts

ipv4-by : (packet rest source target : List ℕ) (proto declared : ℕ) → is_short packet ≡ false → is_fragment packet ≡ false
    → slice_index packet 9 ≡ proto → is_transport proto ≡ true → bytes_at packet 12 4 ≡ source → bytes_at packet 16 4 ≡ target
    → declared_length packet ≡ declared → drop (header_length packet) packet ≡ rest
    → ipv4 packet ≡ Ip proto (V4 source) (V4 target) declared (take declared rest)
unfolding ipv4
ipv4-by packet rest source target proto declared whole plain p t s g d r = rw (whole, plain, p, t, s, g, d, r)

short-test : (long version size total : ℕ) → 20 ≤ long → version ≡ 4 → 20 ≤ size → size ≤ long → (total ≡ 0) ⊎ (size ≤ total)
    → (nat_lt long 20 || not (nat_eq version 4) || nat_lt size 20 || nat_lt long size || (not (nat_eq total 0) && nat_lt total size)) ≡ false
short-test long version size total a b c d e = grind (arith, nat_tests)

pub is_fragment-front : (header rest : List ℕ) → 20 ≤ length header → is_fragment (header ++ rest) ≡ is_fragment header
unfolding is_fragment
is_fragment-front header rest least = rw (short_at-front header rest 6 (omega arith))

pub size-front : (header rest : List ℕ) → IsHeader4 header → header_length (header ++ rest) ≡ length header
size-front header rest plain =
    let least : 20 ≤ length header = plain.least in
    ap (λ (n : ℕ). n % 16 * 4) (index-front header rest 0 (omega arith)) ∙ sym plain.sized

pub total-front : (header rest : List ℕ) → IsHeader4 header → total_length (header ++ rest) ≡ total_length header
total-front header rest plain =
    let least : 20 ≤ length header = plain.least in
    short_at-front header rest 2 (omega arith)

kind-front : (header rest : List ℕ) → IsHeader4 header → version (header ++ rest) ≡ 4
kind-front header rest plain =
    let least : 20 ≤ length header = plain.least in
    ap (λ (n : ℕ). n / 16) (index-front header rest 0 (omega arith)) ∙ plain.version

pub whole-front : (header rest : List ℕ) → IsHeader4 header → SaysEnough header → is_short (header ++ rest) ≡ false
unfolding is_short
whole-front header rest plain said =
    let least : 20 ≤ length header = plain.least in
    let size : header_length (header ++ rest) ≡ length header = size-front header rest plain in
    let total : total_length (header ++ rest) ≡ total_length header = total-front header rest plain in
    let long : length header ≤ length (header ++ rest) = rw length-append (omega arith) in
    short-test (length (header ++ rest)) (version (header ++ rest)) (header_length (header ++ rest)) (total_length (header ++ rest))
    (omega arith) (kind-front header rest plain) (rw size least) (rw size long) (rw (size, total) said)

ipv4-read : (header rest : List ℕ) (declared : ℕ) → IsPlainHeader header → SaysEnough header
    → declared_length (header ++ rest) ≡ declared → ipv4 (header ++ rest) ≡ ipv4_with header declared (take declared rest)
ipv4-read header rest declared plain said d =
    let least : 20 ≤ length header = plain.whole.least in
    ipv4-by (header ++ rest) rest (bytes_at header 12 4) (bytes_at header 16 4) (slice_index header 9) declared
    (whole-front header rest plain.whole said) (is_fragment-front header rest least ∙ plain.unfragmented) (index-front header rest 9 (omega arith))
    plain.transport (bytes_at-front header rest 12 4 (omega arith)) (bytes_at-front header rest 16 4 (omega arith)) d
    (drop_at header rest (header_length (header ++ rest)) (sym (size-front header rest plain.whole)))

-- the declared length, by what the total length says

said-length : (total size long n : ℕ) → 20 ≤ size → total ≡ size + n → (cond (nat_eq total 0) long total) - size ≡ n
said-length total size long n least e =
    let some : nat_eq total 0 ≡ false = grind (arith, nat_tests) in
    rw some (omega arith)

unsaid-length : (total size long n : ℕ) → total ≡ 0 → long ≡ size + n → (cond (nat_eq total 0) long total) - size ≡ n
unsaid-length total size long n none e = rw none (omega arith)

declared-said : (header rest : List ℕ) (n : ℕ) → IsPlainHeader header → total_length header ≡ length header + n → declared_length (header ++ rest) ≡ n
declared-said header rest n plain e =
    said-length (total_length (header ++ rest)) (header_length (header ++ rest)) (length (header ++ rest)) n (rw (size-front header rest plain.whole) plain.whole.least)
    (total-front header rest plain.whole ∙ e ∙ ap (λ (k : ℕ). k + n) (sym (size-front header rest plain.whole)))

declared-unsaid : (header rest : List ℕ) → IsPlainHeader header → total_length header ≡ 0 → declared_length (header ++ rest) ≡ length rest
declared-unsaid header rest plain none =
    unsaid-length (total_length (header ++ rest)) (header_length (header ++ rest)) (length (header ++ rest)) (length rest)
    (total-front header rest plain.whole ∙ none)
    (length-append header rest ∙ ap (λ (k : ℕ). k + length rest) (sym (size-front header rest plain.whole)))

pub ipv4_is_read : (header body rest : List ℕ) → IsPlainHeader header → Ipv4IsRead header body rest
ipv4_is_read header body rest plain = record {
  whole = λ said.
      ipv4-read header (body ++ rest) (length body) plain (inr (omega arith)) (declared-said header (body ++ rest) (length body) plain said)
      ∙ ap (λ (l : List ℕ). ipv4_with header (length body) l) (take_at body rest (length body) refl);
  cut = λ said.
      ipv4-read header body (length body + length rest) plain (inr (omega arith))
      (declared-said header body (length body + length rest) plain (rw said (omega arith)))
      ∙ ap (λ (l : List ℕ). ipv4_with header (length body + length rest) l) (take_all (length body + length rest) body (omega arith));
  unsaid = λ none.
      ipv4-read header body (length body) plain (inl none) (declared-unsaid header body plain none)
      ∙ ap (λ (l : List ℕ). ipv4_with header (length body) l) (take_all (length body) body (omega arith));
}
