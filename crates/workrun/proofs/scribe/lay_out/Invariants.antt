use Rattle.std.proofs.Common.{◌≡◌, flat_map, take}
use Rattle.chunkpart.specs.ChunkParts.{shown_bytes}
use Rattle.workrun.proofs.scribe.lay_out.Given as goal

abbrev pub invariant-loop-chunk : goal.invariant-loop-chunk
invariant-loop-chunk g l = l.out.items ≡ flat_map shown_bytes (take l.chunk-index l.chunks)
