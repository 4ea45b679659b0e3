use Rattle.std.specs.Prelude.{ℕ, List, [], ◌∷◌}

-- an address of version 6 that stands in documents (RFC 3849)
abbrev pub documented : List ℕ
documented = 0x20 ∷ 0x01 ∷ 0x0d ∷ 0xb8 ∷ 0 ∷ 0 ∷ 0 ∷ 0 ∷ 0 ∷ 0 ∷ 0 ∷ 0 ∷ 0xfe ∷ 0xdc ∷ 0xba ∷ 0x98 ∷ []
