use Rattle.std.proofs.Common.{◌∙◌, ap, to_z, of_z, w64}
use Rattle.std.specs.Prelude.{map}
use Rattle.reorder.specs.Frags.{range_for}
use Rattle.flowdir.specs.Waits.{waits_of, wait_in}
use Rattle.flowdir.proofs.FreshRuns.{fresh}
use Rattle.flowdir.proofs.sorting.sort_inner.Goals as goal

pub returns-clause-fresh : goal.returns-clause-fresh
returns-clause-fresh g c = λ front a.
    fresh front c.args.low c.args.policy (to_z w64 (of_z w64 c.args.start)) c.args.inner.now c.args.store.now.frags c.overlay.new.self.frags (waits_of c.in_ok-waits.waits.items) a c.requires.few
    (c.in_ok-waits.ensures ∙ ap (λ xs. map (wait_in c.args.low c.args.inner.now) (map range_for xs)) c.as_slice.ensures ∙ ap (map (wait_in c.args.low c.args.inner.now)) c.in_ok-runs.ensures) c.in_ok-overlay.ensures.ok
