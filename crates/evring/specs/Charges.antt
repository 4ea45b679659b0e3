-- The charges that events and answers carry.
use Rattle.std.specs.Prelude.{List, [], ◌++◌, map, flat_map}
use Rattle.chunkpart.specs.ChunkParts.{ChunkParts, parts_of}
use Rattle.evring.specs.declared.event.Event.{Event}
use Rattle.evring.specs.declared.event.Event.TheVariants.{New, Chunk, Ended}
use Rattle.evring.specs.declared.answer.Answer.{Answer}

-- of a chunk: that of its copy, then those of its fresh parts
abbrev pub charges_of : {C : Type 0} → ChunkParts C → List C
charges_of chunk = map (λ part. part.1) (parts_of chunk)

-- of chunks: one chunk's behind another's
abbrev pub charges_of_all : {C : Type 0} → List (ChunkParts C) → List C
charges_of_all chunks = flat_map charges_of chunks

-- of an event: those of the chunks that were kept before, then those of its own
abbrev pub charges_in : {C : Type 0} → Event C → List C
charges_in (New conv proto source target) = []
charges_in (Chunk conv way key kept chunk) = charges_of_all kept ++ charges_of chunk
charges_in (Ended conv reason) = []

-- of an answer: those of the chunks that come back
abbrev pub charges_back : {C : Type 0} → Answer C → List C
charges_back answer = charges_of_all answer.kept
