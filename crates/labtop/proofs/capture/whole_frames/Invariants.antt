use Rattle.std.proofs.Common.{◌+◌, ◌*◌, ◌≤◌, length, vec_len}
use Rattle.std.specs.List.{sum_by}
use Rattle.pcapfile.specs.Fed.{StandsFor}
use Rattle.labtop.specs.Drill.{limits}
use Rattle.labtop.proofs.capture.whole_frames.Given as goal

abbrev pub invariant-records : goal.invariant-records
invariant-records l = record {
  stands : StandsFor l.fn.head limits l.fn.rest l.found.items l.frames;
  fits : length l.frames.rest + (16 * vec_len l.found + sum_by (λ f. length f.bytes) l.found.items) ≤ length l.fn.rest;
}

abbrev pub decreases-records : goal.decreases-records
decreases-records l = length l.frames.rest
