use Rattle.std.proofs.Common.{inl, inr, arith}
use Rattle.tally.proofs.MergeLemmas.{ended}
use Rattle.tally.proofs.merge.merged.Goals as goal
use Rattle.tally.proofs.merge.merged.Goals.{then-merge-test+else-j-second, else-merge-test}

pub returns : goal.returns
returns c =
    ended c.merge.all.items _ _ c.args.first.now c.args.second.now c.merge.i c.merge.j c.in_ok-extend_from_slice.ensures.items c.in_ok-extend_from_slice-2.ensures.items
    (elim c.merge-test.branch [ then-merge-test+else-j-second w ↦ inr (grind (arith, w.if-j-second)) | else-merge-test w ↦ inl (grind (arith, w.merge-test)) ]) c.merge.invariant.merges
