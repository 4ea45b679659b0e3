-- docs/RULES.md, "Answers": the head of a capture comes before what is behind it.
use Rattle.std.specs.Prelude.{ℕ, ◌<◌, ◌⊎◌, List, Option, Some, None, IsOk}
use Rattle.pcapfile.specs.Head.{head_of}
use Rattle.pcapfile.specs.declared.limits.TheConstants.{HEAD_SIZE}

-- where a read of a file failed behind so many bytes: these are fewer than a file header has, or the file's head isn't refused
abbrev pub IsBehindHead : Option (List ℕ) → ℕ → Type 0
IsBehindHead None taken = Unit {0}
IsBehindHead (Some file) taken = (taken < HEAD_SIZE) ⊎ IsOk (head_of file)
