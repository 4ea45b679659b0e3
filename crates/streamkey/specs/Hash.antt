use Rattle.std.specs.Prelude.{ℕ, zero, suc, ◌≡◌, ◌+◌, ◌-◌, ◌*◌, ◌^◌, ◌%◌, nat_eq, if◌then◌else◌, List, [], ◌∷◌, ◌++◌, bit_xor}
use Rattle.std.specs.List.{flat_map}
use Rattle.std.specs.Int.{bit_at, to_be_bytes, w16}
use Rattle.streamkey.specs.declared.addr.Addr.{Addr}
use Rattle.streamkey.specs.declared.addr.Addr.TheVariants.{V4, V6}
use Rattle.streamkey.specs.declared.end.End.{End}
use Rattle.streamkey.specs.declared.key.Key.{Key}

-- The Toeplitz hash of receive side scaling, with the key of 16 bits whose repetition makes it the same for both ways
-- (Woo and Park, "Scalable TCP Session Monitoring with Symmetric Receive-side Scaling", 2012).

-- the 16 bits of the key, and the bit at a place of their repetition without end, the most significant first
abbrev pub hash_key : ℕ
hash_key = 0x6d5a

abbrev pub key_bit : ℕ → ℕ
key_bit i = bit_at hash_key (15 - i % 16)

-- the number of the n key bits that begin at a place
abbrev pub key_bits : ℕ → ℕ → ℕ
key_bits zero i = 0
key_bits (suc n) i = key_bit i * 2 ^ n + key_bits n (i + 1)

-- the 32 key bits that begin at a place
unfoldable pub window : ℕ → ℕ
window i = key_bits 32 i

-- the bits of a byte, the most significant first
abbrev pub byte_bits : ℕ → List ℕ
byte_bits b = bit_at b 7 ∷ bit_at b 6 ∷ bit_at b 5 ∷ bit_at b 4 ∷ bit_at b 3 ∷ bit_at b 2 ∷ bit_at b 1 ∷ bit_at b 0 ∷ []

-- the exclusive or, over each bit that is set, of the 32 key bits that begin at its place; the first has this place
unfoldable pub hash_from : ℕ → List ℕ → ℕ
hash_from i [] = 0
hash_from i (bit ∷ bits) = bit_xor (if nat_eq bit 1 then window i else 0) (hash_from (i + 1) bits)

-- the hash of bytes, whose bits have the places from 0 on
abbrev pub toeplitz_of : List ℕ → ℕ
toeplitz_of bytes = hash_from 0 (flat_map byte_bits bytes)

-- the bytes of two ends that are hashed, in network order: the two addresses, then the two ports
abbrev pub addr_bytes : Addr → List ℕ
addr_bytes (V4 bytes) = bytes
addr_bytes (V6 bytes) = bytes

abbrev pub port_bytes : ℕ → List ℕ
port_bytes port = to_be_bytes w16 port

abbrev pub hash_input : End → End → List ℕ
hash_input a b = addr_bytes a.addr ++ addr_bytes b.addr ++ port_bytes a.port ++ port_bytes b.port

-- the core of a key, of so many
abbrev pub core_number : Key → ℕ → ℕ
core_number key cores = toeplitz_of (hash_input key.low key.high) % cores

-- two ends have one hash, whichever comes first
abbrev pub IsSymmetric : End → End → Type 0
IsSymmetric a b = toeplitz_of (hash_input a b) ≡ toeplitz_of (hash_input b a)
