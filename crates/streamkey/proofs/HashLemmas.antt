use Rattle.std.proofs.Common.{◌≡◌, ℕ, zero, suc, ◌+◌, ◌-◌, ◌*◌, ◌^◌, ◌/◌, ◌%◌, ◌<◌, Bool, true, false, cond, nat_eq, ◌&&◌, List, [], ◌∷◌, ◌++◌, length, get_or, refl, ap, sym, ◌∙◌, arith, length-append, bit_xor, w32}
use Rattle.std.specs.List.{flat_map}
use Rattle.std.specs.Int.{bit_at, rotate_left}
use Rattle.std.specs.Int.Bits.{xor_assoc}
use Rattle.std.proofs.lemmas.Nat.{xor_comm}
use Rattle.std.proofs.lemmas.Bool.Decides.{nat_tests}
use Rattle.std.proofs.lemmas.Grind.{flat_map-append}
use Rattle.std.proofs.Math.Nat.{add-mod_right}
use Rattle.streamkey.specs.declared.hash.TheConstants.{EVEN}
use Rattle.streamkey.specs.declared.addr.Addr.{Addr}
use Rattle.streamkey.specs.declared.addr.Addr.TheVariants.{V4, V6}
use Rattle.streamkey.specs.declared.end.End.{End}
use Rattle.streamkey.specs.declared.key.Key.{Key}
use Rattle.streamkey.specs.declared.proto.Proto.{Proto}
use Rattle.streamkey.specs.declared.toward.Toward.{Toward}
use Rattle.streamkey.specs.declared.toward.Toward.TheVariants.{Up, Down}
use Rattle.streamkey.specs.Order.{end_before}
use Rattle.streamkey.specs.Key.{key_of}
use Rattle.streamkey.specs.Address.{HasItsBytes}
use Rattle.streamkey.specs.Hash.{hash_key, key_bit, key_bits, window, byte_bits, hash_from, toeplitz_of, addr_bytes, port_bytes, hash_input, core_number, IsSymmetric}

-- The key repeats after 16 bits, and so does everything that is made of it.

key_bits-period : (n i : ℕ) → key_bits n (i + 16) ≡ key_bits n i
key_bits-period zero i = refl
key_bits-period (suc n) i =
    let same : (i + 16) % 16 ≡ i % 16 = add-mod_right i 16 in
    let later : key_bits n ((i + 16) + 1) ≡ key_bits n ((i + 1) + 16) = ap (key_bits n) (omega arith) in
    ap (λ (p : ℕ). bit_at hash_key (15 - p) * 2 ^ n + key_bits n ((i + 16) + 1)) same
    ∙ ap (λ (r : ℕ). key_bit i * 2 ^ n + r) (later ∙ key_bits-period n (i + 1))

window-period : (i : ℕ) → window (i + 16) ≡ window i
unfolding window
window-period i = key_bits-period 32 i

hash_from-period : (bits : List ℕ) (i : ℕ) → hash_from (i + 16) bits ≡ hash_from i bits
unfolding hash_from
hash_from-period [] i = refl
hash_from-period (bit ∷ bits) i =
    let later : hash_from ((i + 16) + 1) bits ≡ hash_from ((i + 1) + 16) bits = ap (λ (p : ℕ). hash_from p bits) (omega arith) in
    ap (λ (w : ℕ). bit_xor (cond (nat_eq bit 1) w 0) (hash_from ((i + 16) + 1) bits)) (window-period i)
    ∙ ap (bit_xor (cond (nat_eq bit 1) (window i) 0)) (later ∙ hash_from-period bits (i + 1))

-- so places 16 bits apart hash alike
pub hash_from-periods : (n i : ℕ) (bits : List ℕ) → hash_from (i + 16 * n) bits ≡ hash_from i bits
hash_from-periods zero i bits = ap (λ (p : ℕ). hash_from p bits) (omega arith)
hash_from-periods (suc n) i bits =
    let one : hash_from (i + 16 * suc n) bits ≡ hash_from ((i + 16 * n) + 16) bits = ap (λ (p : ℕ). hash_from p bits) (omega arith) in
    one ∙ hash_from-period bits (i + 16 * n) ∙ hash_from-periods n i bits

-- the hash of two parts is that of each, the second at its place
hash_from-append : (xs ys : List ℕ) (i : ℕ) → hash_from i (xs ++ ys) ≡ bit_xor (hash_from i xs) (hash_from (i + length xs) ys)
unfolding hash_from
hash_from-append [] ys i = ap (λ (p : ℕ). hash_from p ys) (omega arith)
hash_from-append (x ∷ xs) ys i =
    let first : ℕ = cond (nat_eq x 1) (window i) 0 in
    let place : hash_from ((i + 1) + length xs) ys ≡ hash_from (i + suc (length xs)) ys = ap (λ (p : ℕ). hash_from p ys) (omega arith) in
    ap (bit_xor first) (hash_from-append xs ys (i + 1) ∙ ap (bit_xor (hash_from (i + 1) xs)) place)
    ∙ sym (xor_assoc first (hash_from (i + 1) xs) (hash_from (i + suc (length xs)) ys))

-- each byte has eight bits
length-bits : (bytes : List ℕ) → length (flat_map byte_bits bytes) ≡ 8 * length bytes
length-bits [] = refl
length-bits (b ∷ bytes) =
    let later = length-bits bytes in
    omega (arith, length-append (byte_bits b) (flat_map byte_bits bytes))

-- An exhaustive test of all bytes.

all_below : (ℕ → Bool) → ℕ → Bool
all_below test zero = true
all_below test (suc n) = test n && all_below test n

both : (a b : Bool) → a && b ≡ true → (a ≡ true) × (b ≡ true)
both true b h = (refl, h)
both false b h = absurd (cc)

equal : (a b : ℕ) → nat_eq a b ≡ true → a ≡ b
equal a b h = grind (arith, nat_tests)

other : (a b : ℕ) → nat_eq a b ≡ false → a < suc b → a < b
other a b h k = grind (arith, nat_tests)

at_or_below : (test : ℕ → Bool) (n k : ℕ) (b : Bool) → nat_eq k n ≡ b → test n ≡ true → (k < n → test k ≡ true) → k < suc n → test k ≡ true
at_or_below test n k true e here rest h = ap test (equal k n e) ∙ here
at_or_below test n k false e here rest h = rest (other k n e h)

below : (test : ℕ → Bool) (n k : ℕ) → all_below test n ≡ true → k < n → test k ≡ true
unfolding all_below
below test zero k h l = absurd (omega arith)
below test (suc n) k h l =
    let parts = both (test n) (all_below test n) h in
    at_or_below test n k (nat_eq k n) refl parts.0 (below test n k parts.1) l

-- the table at an even place, and turned by a byte at an odd one
is_even : ℕ → Bool
is_even b = nat_eq (get_or EVEN b 0) (hash_from 0 (byte_bits b))

is_odd : ℕ → Bool
is_odd b = nat_eq (rotate_left w32 (get_or EVEN b 0) 8) (hash_from 8 (byte_bits b))

all_even : all_below is_even 256 ≡ true
unfolding all_below is_even hash_from window
all_even = refl

all_odd : all_below is_odd 256 ≡ true
unfolding all_below is_odd hash_from window
all_odd = refl

pub even_byte : (b : ℕ) → b < 256 → get_or EVEN b 0 ≡ hash_from 0 (byte_bits b)
unfolding is_even
even_byte b h = equal _ _ (below is_even 256 b all_even h)

odd_byte : (b : ℕ) → b < 256 → rotate_left w32 (get_or EVEN b 0) 8 ≡ hash_from 8 (byte_bits b)
unfolding is_odd
odd_byte b h = equal _ _ (below is_odd 256 b all_odd h)

-- what a byte adds at an odd place is that at an even one, turned by eight bits
pub turned_byte : (b : ℕ) → b < 256 → rotate_left w32 (hash_from 0 (byte_bits b)) 8 ≡ hash_from 8 (byte_bits b)
turned_byte b h = ap (λ (n : ℕ). rotate_left w32 n 8) (sym (even_byte b h)) ∙ odd_byte b h

-- The hash byte by byte.

-- a byte hashes by whether its place is odd
byte_place : (i : ℕ) (bits : List ℕ) (b : Bool) → nat_eq (i % 2) 1 ≡ b → hash_from (8 * i) bits ≡ hash_from (cond b 8 0) bits
byte_place i bits true h =
    let odd : i % 2 ≡ 1 = equal (i % 2) 1 h in
    let place : 8 * i ≡ 8 + 16 * (i / 2) = omega arith in
    ap (λ (p : ℕ). hash_from p bits) place ∙ hash_from-periods (i / 2) 8 bits
byte_place i bits false h =
    let even : i % 2 ≡ 0 = not_odd i h in
    let place : 8 * i ≡ 0 + 16 * (i / 2) = omega arith in
    ap (λ (p : ℕ). hash_from p bits) place ∙ hash_from-periods (i / 2) 0 bits where
      not_odd : (n : ℕ) → nat_eq (n % 2) 1 ≡ false → n % 2 ≡ 0
      not_odd n k = grind (arith, nat_tests)

-- no bytes
pub hash_of_none : 0 ≡ toeplitz_of []
unfolding hash_from
hash_of_none = refl

-- one byte more
pub hash_step : (bytes : List ℕ) (b i : ℕ) → length bytes ≡ i → toeplitz_of (bytes ++ b ∷ []) ≡ bit_xor (toeplitz_of bytes) (hash_from (cond (nat_eq (i % 2) 1) 8 0) (byte_bits b))
hash_step bytes b i h =
    let bits : List ℕ = flat_map byte_bits bytes in
    let place : 0 + length bits ≡ 8 * i = omega (arith, length-bits bytes) in
    ap (hash_from 0) (flat_map-append byte_bits bytes (b ∷ []))
    ∙ hash_from-append bits (byte_bits b) 0
    ∙ ap (λ (p : ℕ). bit_xor (hash_from 0 bits) (hash_from p (byte_bits b))) place
    ∙ ap (bit_xor (hash_from 0 bits)) (byte_place i (byte_bits b) (nat_eq (i % 2) 1) refl)

-- The hash of parts that begin at even places.

pub hash_parts : (xs ys : List ℕ) → length xs % 2 ≡ 0 → toeplitz_of (xs ++ ys) ≡ bit_xor (toeplitz_of xs) (toeplitz_of ys)
hash_parts xs ys h =
    let bits : List ℕ = flat_map byte_bits xs in
    let more : List ℕ = flat_map byte_bits ys in
    let place : 0 + length bits ≡ 0 + 16 * (length xs / 2) = omega (arith, length-bits xs) in
    ap (hash_from 0) (flat_map-append byte_bits xs ys)
    ∙ hash_from-append bits more 0
    ∙ ap (λ (p : ℕ). bit_xor (hash_from 0 bits) (hash_from p more)) place
    ∙ ap (bit_xor (hash_from 0 bits)) (hash_from-periods (length xs / 2) 0 more)

addr_even : (a : Addr) → HasItsBytes a → length (addr_bytes a) % 2 ≡ 0
addr_even (V4 bytes) h = ap (λ (n : ℕ). n % 2) h
addr_even (V6 bytes) h = ap (λ (n : ℕ). n % 2) h

-- the hash of two ends is that of their parts
pub hash_of_ends : (a b : End) → HasItsBytes a.addr → HasItsBytes b.addr
    → toeplitz_of (hash_input a b) ≡ bit_xor (bit_xor (bit_xor (toeplitz_of (addr_bytes a.addr)) (toeplitz_of (addr_bytes b.addr))) (toeplitz_of (port_bytes a.port))) (toeplitz_of (port_bytes b.port))
hash_of_ends a b h k =
    let one : List ℕ = addr_bytes a.addr in
    let two : List ℕ = addr_bytes b.addr in
    let three : List ℕ = port_bytes a.port in
    let four : List ℕ = port_bytes b.port in
    let even_one : length one % 2 ≡ 0 = addr_even a.addr h in
    let even_two : length two % 2 ≡ 0 = addr_even b.addr k in
    let both_len = length-append one two in
    let even_both : length (one ++ two) % 2 ≡ 0 = omega arith in
    let all_len = length-append (one ++ two) three in
    let port_len : length three ≡ 2 = refl in
    let even_all : length (one ++ two ++ three) % 2 ≡ 0 = omega arith in
    hash_parts (one ++ two ++ three) four even_all
    ∙ ap (λ (x : ℕ). bit_xor x (toeplitz_of four)) (hash_parts (one ++ two) three even_both)
    ∙ ap (λ (x : ℕ). bit_xor (bit_xor x (toeplitz_of three)) (toeplitz_of four)) (hash_parts one two even_one)

-- four parts, each pair exchanged
exchanged : (a b c d : ℕ) → bit_xor (bit_xor (bit_xor a b) c) d ≡ bit_xor (bit_xor (bit_xor b a) d) c
exchanged a b c d =
    xor_assoc (bit_xor a b) c d
    ∙ ap (λ (x : ℕ). bit_xor x (bit_xor c d)) (xor_comm a b)
    ∙ ap (bit_xor (bit_xor b a)) (xor_comm c d)
    ∙ sym (xor_assoc (bit_xor b a) d c)

pub is_symmetric : (a b : End) → HasItsBytes a.addr → HasItsBytes b.addr → IsSymmetric a b
is_symmetric a b h k =
    hash_of_ends a b h k
    ∙ exchanged (toeplitz_of (addr_bytes a.addr)) (toeplitz_of (addr_bytes b.addr)) (toeplitz_of (port_bytes a.port)) (toeplitz_of (port_bytes b.port))
    ∙ sym (hash_of_ends b a k h)

-- four parts that are the same, put together
pub same_four : (a b c d e f g h : ℕ) → a ≡ e → b ≡ f → c ≡ g → d ≡ h → bit_xor (bit_xor (bit_xor a b) c) d ≡ bit_xor (bit_xor (bit_xor e f) g) h
same_four a b c d e f g h p q r s = cc

-- the key of a packet has the hash of its source and its target
pub core_of_packet : (proto : Proto) (source target : End) (cores : ℕ) → HasItsBytes source.addr → HasItsBytes target.addr
    → core_number (key_of proto source target).0 cores ≡ toeplitz_of (hash_input source target) % cores
core_of_packet proto source target cores h k = by_order (end_before target source) where
  by_order : (b : Bool) → core_number (cond {A = Key × Toward} b (record { proto = proto; low = target; high = source }, Down) (record { proto = proto; low = source; high = target }, Up)).0 cores
      ≡ toeplitz_of (hash_input source target) % cores
  by_order true = ap (λ (n : ℕ). n % cores) (is_symmetric target source k h)
  by_order false = refl
