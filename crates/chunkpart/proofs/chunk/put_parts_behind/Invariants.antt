use Rattle.std.proofs.Common.{◌≡◌, ◌-◌, ◌≤◌, ◌++◌, take, drop, length}
use Rattle.std.specs.Vec.{vec_capacity}
use Rattle.chunkpart.specs.Parts.{bytes_of}
use Rattle.chunkpart.proofs.chunk.put_parts_behind.Given as goal

abbrev pub invariant-loop-part : goal.invariant-loop-part
invariant-loop-part g l = record {
  items : l.out.items ≡ l.initial.out.items ++ drop l.skipped (bytes_of (take l.part-index l.parts));
  left : l.left ≡ l.skipped - length (bytes_of (take l.part-index l.parts));
  capacity : vec_capacity l.initial.out ≤ vec_capacity l.out;
}
