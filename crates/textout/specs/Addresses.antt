-- The texts of addresses, over the octets as they stand in a header.
use Rattle.std.specs.Prelude.{ℕ, zero, suc, ◌+◌, ◌*◌, List, [], ◌∷◌, ◌++◌, slice_index, codes}
use Rattle.std.specs.Fmt.{decimal}
use Rattle.hex.specs.Hex.{encode_lower}

-- version 4: four decimal numbers joined by dots
unfoldable pub dotted : List ℕ → List ℕ
dotted a = decimal (slice_index a 0) ++ codes "." ++ decimal (slice_index a 1) ++ codes "." ++ decimal (slice_index a 2) ++ codes "." ++ decimal (slice_index a 3)

-- two octets as four lower-case hexadecimal digits
abbrev pub group_at : List ℕ → ℕ → List ℕ
group_at a i = encode_lower (slice_index a (2 * i) ∷ slice_index a (2 * i + 1) ∷ [])

-- the first groups, each with a colon behind it
abbrev pub colon_groups : List ℕ → ℕ → List ℕ
colon_groups a zero = []
colon_groups a (suc n) = colon_groups a n ++ (group_at a n ++ codes ":")

-- version 6: eight groups joined by colons
unfoldable pub grouped : List ℕ → List ℕ
grouped a = colon_groups a 7 ++ group_at a 7
