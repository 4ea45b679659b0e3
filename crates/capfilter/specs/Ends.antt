use Rattle.std.specs.Prelude.{ℕ, Bool, false, ◌||◌, List, [], ◌∷◌, Option, None, nat_eq, is_some, if◌then◌else◌}
use Rattle.std.specs.Option.{option_map, option_and_then}
use Rattle.streamkey.specs.declared.addr.Addr.{Addr}
use Rattle.streamkey.specs.declared.addr.Addr.TheVariants.{V4, V6}
use Rattle.capfilter.specs.declared.end_test.EndTest.{EndTest}
use Rattle.capfilter.specs.declared.end_test.EndTest.TheVariants as tests
use Rattle.capfilter.specs.declared.end_test.Field.{Field}
use Rattle.capfilter.specs.declared.end_test.Field.TheVariants as fields
use Rattle.textout.specs.Numbers.{number}
use Rattle.capfilter.specs.Numbers.{parts}
use Rattle.capfilter.specs.Addresses.{address}

-- Hosts, nets and ports as texts: docs/FORMATS.md, "Filters".

-- how many bits an address has
abbrev pub width : Addr → ℕ
width (V4 bytes) = 32
width (V6 bytes) = 128

-- a zero with more behind it
abbrev pub has_leading_zero : List ℕ → Bool
has_leading_zero [] = false
has_leading_zero (x ∷ []) = false
has_leading_zero (x ∷ y ∷ ds) = nat_eq x 48

-- how many bits of an address a net looks at: no zero leads
abbrev pub bits : ℕ → List ℕ → Option ℕ
bits most ds = if has_leading_zero ds then None else number 10 3 most ds

-- an address, a slash and a number of bits
abbrev pub net_parts : List (List ℕ) → Option EndTest
net_parts [] = None
net_parts (a ∷ []) = None
net_parts (a ∷ b ∷ []) = option_and_then (λ address. option_map (λ n. tests.Net address n) (bits (width address) b)) (address a)
net_parts (a ∷ b ∷ c ∷ more) = None

-- what a text says behind `host`, `net` or `port`
unfoldable pub end_test : Field → List ℕ → Option EndTest
end_test fields.Host text = option_map (λ a. tests.Host a) (address text)
end_test fields.Net text = net_parts (parts 47 text)
end_test fields.Port text = option_map (λ n. tests.Port n) (number 10 5 65535 text)

-- whether a text can stand behind one of them
unfoldable pub is_end_test : List ℕ → Bool
is_end_test text = is_some (end_test fields.Host text) || is_some (end_test fields.Net text) || is_some (end_test fields.Port text)
