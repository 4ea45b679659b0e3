use Rattle.std.proofs.Common.{◌≡◌, ℕ, ◌+◌, ◌-◌, ◌*◌, ◌/◌, ◌<◌, ◌≤◌, nat_eq, nat_lt, ◌&&◌, ◌||◌, not, cond, ◌⊎◌, inl, inr, false, List, [], ◌∷◌, ◌++◌, length, take, drop, refl, sym, ◌∙◌, ap, arith, length-append, length-drop}
use Rattle.std.proofs.lemmas.Bool.Decides.{nat_tests}
use Rattle.std.proofs.lemmas.List.{drop_at, take_at, take_all, drop-append-le}
use Rattle.byteorder.specs.Endian.{big_number}
use Rattle.streamkey.specs.declared.addr.Addr.{Addr}
use Rattle.streamkey.specs.declared.proto.Proto.TheVariants.{Tcp, Udp}
use Rattle.streamkey.specs.Key.{key_of}
use Rattle.linkip.specs.Fields.{short_at}
use Rattle.linkip.proofs.FieldLemmas.{short_at-front, index-front}
use Rattle.porthdr.specs.Kind.{accepted}
use Rattle.porthdr.specs.Tcp.{header_length, sequence_number, control_bits, tcp}
use Rattle.porthdr.specs.Tcp.{is_short as tcp_short}
use Rattle.porthdr.specs.Udp.{said_length, payload_length, is_short, udp}
use Rattle.porthdr.specs.Laws.{IsSegmentHeader, SegmentIsRead, datagram_with, DatagramIsRead}

-- TCP

four : (front back : List ℕ) → 4 ≤ length front → big_number 4 (front ++ back) ≡ big_number 4 front
four [] back h = absurd (omega arith)
four (x ∷ []) back h = absurd (omega arith)
four (x ∷ y ∷ []) back h = absurd (omega arith)
four (x ∷ y ∷ z ∷ []) back h = absurd (omega arith)
four (x ∷ y ∷ z ∷ w ∷ front) back h = refl

sequence_number-front : (header rest : List ℕ) → 20 ≤ length header → sequence_number (header ++ rest) ≡ sequence_number header
sequence_number-front header rest least =
    let within : 4 ≤ length header = omega arith in
    let long : 4 ≤ length (drop 4 header) = rw length-drop (omega arith) in
    rw (drop-append-le 4 header rest within) (four (drop 4 header) rest long)

tcp-by : (source target : Addr) (declared : ℕ) (segment payload : List ℕ) (from to sequence bits size : ℕ) → tcp_short segment ≡ false
    → short_at segment 0 ≡ from → short_at segment 2 ≡ to → sequence_number segment ≡ sequence → control_bits segment ≡ bits
    → header_length segment ≡ size → drop size segment ≡ payload
    → tcp source target declared segment
    ≡ accepted (key_of Tcp (record { addr = source; port = from }) (record { addr = target; port = to })) sequence bits (declared - size) payload
unfolding tcp
tcp-by source target declared segment payload from to sequence bits size whole f t s b n p = rw (whole, f, t, s, b, n, p)

tcp-test : (long size : ℕ) → 20 ≤ long → 20 ≤ size → size ≤ long → (nat_lt long 20 || nat_lt size 20 || nat_lt long size) ≡ false
tcp-test long size a b c = grind (arith, nat_tests)

pub segment_is_read : (source target : Addr) (declared : ℕ) (header payload : List ℕ) → IsSegmentHeader header
    → SegmentIsRead source target declared header payload
unfolding tcp_short
segment_is_read source target declared header payload plain =
    let least : 20 ≤ length header = plain.least in
    let long : length header ≤ length (header ++ payload) = rw length-append (omega arith) in
    let size : header_length (header ++ payload) ≡ length header = ap (λ (n : ℕ). n / 16 * 4) (index-front header payload 12 (omega arith)) ∙ sym plain.sized in
    let whole : tcp_short (header ++ payload) ≡ false
    = tcp-test (length (header ++ payload)) (header_length (header ++ payload)) (omega arith) (rw size least) (rw size long) in
    tcp-by source target declared (header ++ payload) payload (short_at header 0) (short_at header 2) (sequence_number header) (control_bits header)
    (length header) whole (short_at-front header payload 0 (omega arith)) (short_at-front header payload 2 (omega arith))
    (sequence_number-front header payload least) (index-front header payload 13 (omega arith)) size (drop_at header payload (length header) refl)

-- UDP

udp-by : (source target : Addr) (declared : ℕ) (datagram rest : List ℕ) (from to size : ℕ) → is_short datagram ≡ false
    → short_at datagram 0 ≡ from → short_at datagram 2 ≡ to → payload_length declared datagram ≡ size → drop 8 datagram ≡ rest
    → udp source target declared datagram
    ≡ accepted (key_of Udp (record { addr = source; port = from }) (record { addr = target; port = to })) 0 0 size (take size rest)
unfolding udp
udp-by source target declared datagram rest from to size whole f t n r = rw (whole, f, t, n, r)

udp-test : (long said : ℕ) → 8 ≤ long → (said ≡ 0) ⊎ (8 ≤ said) → (nat_lt long 8 || (not (nat_eq said 0) && nat_lt said 8)) ≡ false
udp-test long said a b = grind (arith, nat_tests)

datagram-read : (source target : Addr) (declared : ℕ) (header rest : List ℕ) (size : ℕ) → length header ≡ 8
    → (said_length header ≡ 0) ⊎ (8 ≤ said_length header) → payload_length declared (header ++ rest) ≡ size
    → udp source target declared (header ++ rest) ≡ datagram_with source target header size (take size rest)
unfolding is_short
datagram-read source target declared header rest size sized said n =
    let long : 8 ≤ length (header ++ rest) = rw length-append (omega arith) in
    let same : said_length (header ++ rest) ≡ said_length header = short_at-front header rest 4 (omega arith) in
    let whole : is_short (header ++ rest) ≡ false = udp-test (length (header ++ rest)) (said_length (header ++ rest)) long (rw same said) in
    udp-by source target declared (header ++ rest) rest (short_at header 0) (short_at header 2) size whole
    (short_at-front header rest 0 (omega arith)) (short_at-front header rest 2 (omega arith)) n (drop_at header rest 8 sized)

said-within : (said declared n : ℕ) → said ≡ 8 + n → 8 + n ≤ declared → (cond (nat_eq said 0 || nat_lt declared said) declared said) - 8 ≡ n
said-within said declared n e within = grind (arith, nat_tests)

said-else : (said declared : ℕ) → (said ≡ 0) ⊎ (declared < said) → (cond (nat_eq said 0 || nat_lt declared said) declared said) - 8 ≡ declared - 8
said-else said declared (inl none) = grind (arith, nat_tests)
said-else said declared (inr more) = grind (arith, nat_tests)

length-within : (declared : ℕ) (header rest : List ℕ) (n : ℕ) → length header ≡ 8 → said_length header ≡ 8 + n → 8 + n ≤ declared
    → payload_length declared (header ++ rest) ≡ n
length-within declared header rest n sized said within =
    said-within (said_length (header ++ rest)) declared n (short_at-front header rest 4 (omega arith) ∙ said) within

length-else : (declared : ℕ) (header rest : List ℕ) → length header ≡ 8 → (said_length header ≡ 0) ⊎ (declared < said_length header)
    → payload_length declared (header ++ rest) ≡ declared - 8
length-else declared header rest sized said =
    let same : said_length (header ++ rest) ≡ said_length header = short_at-front header rest 4 (omega arith) in
    said-else (said_length (header ++ rest)) declared (rw same said)

pub datagram_is_read : (source target : Addr) (declared : ℕ) (header payload rest : List ℕ) → length header ≡ 8
    → DatagramIsRead source target declared header payload rest
datagram_is_read source target declared header payload rest sized = record {
  whole = λ said within.
      datagram-read source target declared header (payload ++ rest) (length payload) sized (inr (omega arith))
      (length-within declared header (payload ++ rest) (length payload) sized said within)
      ∙ ap (λ (l : List ℕ). datagram_with source target header (length payload) l) (take_at payload rest (length payload) refl);
  cut = λ said within.
      datagram-read source target declared header payload (length payload + length rest) sized (inr (omega arith))
      (length-within declared header payload (length payload + length rest) sized (omega arith) (omega arith))
      ∙ ap (λ (l : List ℕ). datagram_with source target header (length payload + length rest) l)
      (take_all (length payload + length rest) payload (omega arith));
  unsaid = λ none within.
      datagram-read source target declared header payload (declared - 8) sized (inl none) (length-else declared header payload sized (inl none))
      ∙ ap (λ (l : List ℕ). datagram_with source target header (declared - 8) l) (take_all (declared - 8) payload (omega arith));
  beyond = λ more within.
      datagram-read source target declared header payload (declared - 8) sized (inr (omega arith)) (length-else declared header payload sized (inr more))
      ∙ ap (λ (l : List ℕ). datagram_with source target header (declared - 8) l) (take_all (declared - 8) payload (omega arith));
}
