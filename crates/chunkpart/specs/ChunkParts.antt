use Rattle.std.specs.Prelude.{ℕ, List, ◌++◌, option_to_list}
use Rattle.std.specs.Prelude.{Option}
use Rattle.chunkpart.specs.Parts.{bytes_of}

-- what contracts see of a chunk whose charges are of type C
pub record ChunkParts (C : Type 0) : Type 0 where
  -- the position of its first fresh byte in the stream
  pub start : ℕ
  -- the number of positions before it that the stream passed without a byte
  pub gap : ℕ
  -- the copy of last bytes of the chunk before
  pub tail : Option (List ℕ × C)
  -- the fresh parts in the order of the stream
  pub fresh : List (List ℕ × C)
  -- the number of parts that can be appended without memory
  pub room : ℕ

-- the parts of a chunk in order: its copy, then its fresh parts
abbrev pub parts_of : {C : Type 0} → ChunkParts C → List (List ℕ × C)
parts_of chunk = option_to_list chunk.tail ++ chunk.fresh

-- the bytes of the copy
abbrev pub copied_bytes : {C : Type 0} → ChunkParts C → List ℕ
copied_bytes chunk = bytes_of (option_to_list chunk.tail)

-- the fresh bytes in the order of the stream
abbrev pub fresh_bytes : {C : Type 0} → ChunkParts C → List ℕ
fresh_bytes chunk = bytes_of chunk.fresh

-- the bytes that a chunk shows: its copy, then its fresh bytes
abbrev pub shown_bytes : {C : Type 0} → ChunkParts C → List ℕ
shown_bytes chunk = copied_bytes chunk ++ fresh_bytes chunk
