use Rattle.std.proofs.Common.{◌≡◌, ◌≤◌, ◌++◌, take}
use Rattle.std.specs.Vec.{vec_capacity}
use Rattle.chunkpart.specs.Parts.{bytes_of}
use Rattle.chunkpart.proofs.chunk.put_parts.Given as goal

abbrev pub invariant-loop-part : goal.invariant-loop-part
invariant-loop-part g l =
    (l.out.items ≡ l.initial.out.items ++ bytes_of (take l.part-index l.parts)) × (vec_capacity l.initial.out ≤ vec_capacity l.out)
