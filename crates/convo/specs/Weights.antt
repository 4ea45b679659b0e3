-- Charges summed by a weight.
use Rattle.std.specs.Prelude.{ℕ, ◌+◌, List, [], ◌∷◌}
use Rattle.chunkpart.specs.ChunkParts.{ChunkParts, parts_of}
use Rattle.flowdir.specs.Boundary.{weight_of_parts}
use Rattle.evring.specs.declared.event.Event.{Event}
use Rattle.evring.specs.declared.event.Event.TheVariants.{New, Chunk, Ended}
use Rattle.convo.specs.declared.want.Want.{Want}
use Rattle.convo.specs.declared.want.Want.TheVariants.{Ask, Free, Emit, Rest}

-- the charges of chunks
abbrev pub weight_of_chunks : {C : Type 0} → (C → ℕ) → List (ChunkParts C) → ℕ
weight_of_chunks weight [] = 0
weight_of_chunks weight (chunk ∷ chunks) = weight_of_parts weight (parts_of chunk) + weight_of_chunks weight chunks

-- those of an event
abbrev pub weight_of_event : {C : Type 0} → (C → ℕ) → Event C → ℕ
weight_of_event weight (New conv proto source target) = 0
weight_of_event weight (Chunk conv way key kept chunk) = weight_of_chunks weight kept + weight_of_parts weight (parts_of chunk)
weight_of_event weight (Ended conv reason) = 0

-- those that a want gives out
abbrev pub weight_of_want : {C : Type 0} → (C → ℕ) → Want C → ℕ
weight_of_want weight (Ask bytes mark) = 0
weight_of_want weight (Free c) = weight c
weight_of_want weight (Emit event) = weight_of_event weight event
weight_of_want weight Rest = 0
