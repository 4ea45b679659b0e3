use Rattle.std.proofs.Common.{◌≡◌, sym, ◌∙◌, ap, subst, to_z, of_z, w64, ℤ, [], ◌+◌}
use Rattle.std.proofs.Math.Facts.{to_z-of_z}
use Rattle.std.specs.Prelude.{max}
use Rattle.streamdefs.specs.Ranges.{cut_at}
use Rattle.flowdir.specs.Asking.{Asking}
use Rattle.flowdir.specs.Classes.{at_of, inner_of, bytes_at}
use Rattle.flowdir.specs.Waits.{waits_of}
use Rattle.flowdir.specs.Counting.{classes_of}
use Rattle.flowdir.proofs.StartAsking.{start_asking}
use Rattle.flowdir.proofs.running.start_runs.Goals as goal

pub returns-clause-asking : goal.returns-clause-asking
returns-clause-asking g c = λ paid t kind d s p l f st m.
    let cut = c.cut_up-cut in
    let front = c.front.ensures.front in
    let same : to_z w64 (of_z w64 c.args.start) ≡ c.args.start = to_z-of_z c.ranges.start in
    let low : cut.result.low ≡ max c.args.passed.now.lane.front (at_of (to_z w64 (of_z w64 c.args.start))) = cut.ensures.low ∙ ap (λ n. max n (at_of (to_z w64 (of_z w64 c.args.start)))) front in
    subst (λ (z : ℤ). Asking paid t kind d s [] z c.sort_inner.new.store.frags (waits_of c.in_ok-sorted.sorted.waits.items) (classes_of c.count-counts.result)) same
    (start_asking paid t kind d s c.args.policy (to_z w64 (of_z w64 c.args.start)) c.args.payload.now c.args.cutoff c.args.passed.now.lane c.args.store.now.frags c.sort_inner.new.store.frags
    cut.result.at cut.result.len cut.result.below cut.result.low cut.result.inner.now (waits_of c.in_ok-sorted.sorted.waits.items) (classes_of c.count-counts.result) c.in_ok-sorted.sorted.wanted
    p l f (same ∙ st) m c.requires.ascends cut.ensures.at cut.ensures.len cut.ensures.below low
    (cut.ensures.inner ∙ ap (λ n. inner_of n c.args.cutoff (at_of (to_z w64 (of_z w64 c.args.start))) (bytes_at (to_z w64 (of_z w64 c.args.start)) c.args.payload.now)) front)
    c.in_ok-sorted.ensures.waits c.in_ok-sorted.ensures.wanted c.in_ok-sorted.ensures.frags
    (c.count-counts.ensures.counts c.args.cutoff (low ∙ ap (max c.args.passed.now.lane.front) (sym cut.ensures.at)) (cut.ensures.high ∙ (λ i. cut_at c.args.cutoff (sym cut.ensures.at i + sym cut.ensures.len i)))))
