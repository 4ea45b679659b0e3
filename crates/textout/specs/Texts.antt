use Rattle.std.specs.Prelude.{ℕ, List, ◌++◌, codes, flat_map}
use Rattle.std.specs.Fmt.{decimal}

-- numbers, each behind a space
abbrev pub spaced : List ℕ → List ℕ
spaced = flat_map (λ n. codes " " ++ decimal n)
