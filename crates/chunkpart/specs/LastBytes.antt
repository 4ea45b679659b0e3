use Rattle.std.specs.Prelude.{ℕ, ◌-◌, List, drop, length}

-- the last n of bytes
abbrev pub last_of : ℕ → List ℕ → List ℕ
last_of n bytes = drop (length bytes - n) bytes
