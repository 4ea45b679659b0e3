use Rattle.std.specs.Prelude.{◌≡◌, ℕ, true, false, List, [], ◌∷◌, ◌++◌, length, slice_index}
use Rattle.linkip.specs.Ipv6.{Upper, is_extension, is_cut, extension_length}

-- Chains of extension headers (RFC 8200, section 4), as lists of whole headers.

-- the bytes of headers that stand one behind another
abbrev pub joined : List (List ℕ) → List ℕ
joined [] = []
joined (header ∷ headers) = header ++ joined headers

-- these are extension headers, each as long as it says; the number names the first, each one's first byte the one behind
-- it, and the last number what stands behind the last
abbrev pub IsChain : ℕ → List (List ℕ) → ℕ → Type 0
IsChain next [] last = next ≡ last
IsChain next (header ∷ headers) last =
    (is_extension next ≡ true) × (length header ≡ extension_length header) × IsChain (slice_index header 0) headers last

-- the bytes are a chain, from the number of its first header on to that of what stands behind it, and the rest
pub record IsBehindChain (next : ℕ) (bytes : List ℕ) (last : ℕ) (rest : List ℕ) : Type 0 where
  pub headers : List (List ℕ)
  pub chain : IsChain next headers last
  pub whole : bytes ≡ joined headers ++ rest

-- the bytes are a chain and an extension header that is cut
pub record IsCutChain (next : ℕ) (bytes : List ℕ) : Type 0 where
  pub last : ℕ
  pub rest : List ℕ
  pub behind : IsBehindChain next bytes last rest
  pub extension : is_extension last ≡ true
  pub cut : is_cut rest ≡ true

-- the bytes are a chain and a header that is no extension header
pub record IsWholeChain (next : ℕ) (bytes : List ℕ) (upper : Upper) : Type 0 where
  pub behind : IsBehindChain next bytes upper.next upper.left
  pub ends : is_extension upper.next ≡ false
