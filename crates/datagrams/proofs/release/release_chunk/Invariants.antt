use Rattle.std.proofs.Common.{◌≡◌, length, None}
use Rattle.datagrams.proofs.ServedLemmas.{IsReleasing}
use Rattle.datagrams.proofs.release.release_chunk.Given as goal

abbrev pub invariant-loop-part : goal.invariant-loop-part
invariant-loop-part l = (l.chunk.tail ≡ None) × IsReleasing l.fn.chunk.fresh l.chunk.fresh l.fn.budget l.budget l.full l.frees.items

abbrev pub decreases-loop-part : goal.decreases-loop-part
decreases-loop-part l = length l.chunk.fresh
