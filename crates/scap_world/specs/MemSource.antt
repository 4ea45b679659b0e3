use Rattle.std.specs.Prelude.{ℕ, List, drop}
use Rattle.scap_world.specs.Plans.{CallsMade}
use Rattle.scap_world.specs.declared.in_memory.source.MemSource.{MemSource}

-- the bytes that a source has left
abbrev pub left_of : MemSource → List ℕ
left_of source = drop source.at source.bytes.items

-- how many bytes were taken from it
abbrev pub taken_of : MemSource → ℕ
taken_of source = source.at

-- how many bytes one read gives at most
abbrev pub piece_of : MemSource → ℕ
piece_of source = source.most

-- the reads made on it
abbrev pub reads_of : MemSource → CallsMade
reads_of source = source.calls
