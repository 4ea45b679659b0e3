use Rattle.std.proofs.Common.{◌≡◌, ℕ, length}
use Rattle.convo.specs.Weights.{weight_of_chunks}
use Rattle.convo.proofs.drain.drain_chunks.Given as goal

abbrev pub invariant-loop-chunk : goal.invariant-loop-chunk
invariant-loop-chunk g l = (w : g.row.C.Denot → ℕ) → weight_of_chunks w l.chunks.items ≡ weight_of_chunks w l.initial.chunks.items

abbrev pub decreases-loop-chunk : goal.decreases-loop-chunk
decreases-loop-chunk g l = length l.chunks.items
