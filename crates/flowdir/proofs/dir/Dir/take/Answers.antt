use Rattle.std.proofs.Common.{sym, ◌∙◌, ap, subst, to_z, of_z, w64}
use Rattle.flowdir.specs.Kept.{IsSoundAt, HasFew, working_for}
use Rattle.flowdir.specs.Waits.{waits_of, TakesRun}
use Rattle.flowdir.proofs.Sound.{kept_taken}
use Rattle.flowdir.proofs.dir.Dir.take.Goals as goal

pub invariant_of-self-in_ok-reserve_for-2 : goal.invariant_of-self-in_ok-reserve_for-2
invariant_of-self-in_ok-reserve_for-2 g c =
    let kept =
    kept_taken c.self.inside.last c.self.inside.store.room c.reserve_for.new.store.room c.self.inside.under.counts.taken c.with_taken-self-inside.result.taken c.self.inside.passed.lane
    c.in-Runs.start (to_z w64 (of_z w64 c.in-Runs.start)) (to_z w64 (of_z w64 c.in-Runs.start)) c.args.charge (waits_of c.in-Runs.waits.items) (waits_of c.take_run-bytes.new.waits.items) c.self.inside.store.frags c.reserve_for.new.store.frags c.take_run-bytes.result
    (subst (λ v. IsSoundAt c.self.inside.last c.self.inside.store.room c.self.inside.passed.lane c.self.inside.store.frags (working_for v) × HasFew c.self.inside.under.counts.taken (working_for v)) (sym c.replace.ensures.value ∙ c.in-Runs.is) (c.self.invariant.0, c.self.invariant.1))
    (subst (λ fs. TakesRun (to_z w64 (of_z w64 c.in-Runs.start)) c.args.charge (waits_of c.in-Runs.waits.items) c.self.inside.store.frags (waits_of c.take_run-bytes.new.waits.items) fs c.take_run-bytes.result) (sym c.in_ok-reserve_for.ensures.same) c.take_run-bytes.ensures.takes)
    c.in_ok-reserve_for.ensures.room (ap (λ x. x.taken) c.with_taken-self-inside.ensures)
    in (kept.0, kept.1, c.self.invariant.2, c.self.invariant.3, c.self.invariant.4)

pub invariant_of-self-in_ok-reserve_for-3 : goal.invariant_of-self-in_ok-reserve_for-3
invariant_of-self-in_ok-reserve_for-3 g c =
    let kept =
    kept_taken c.self.inside.last c.self.inside.store.room c.reserve_for.new.store.room c.self.inside.under.counts.taken c.with_taken-self-inside.result.taken c.self.inside.passed.lane
    c.in-Runs.start (to_z w64 (of_z w64 c.in-Runs.start)) (to_z w64 (of_z w64 c.in-Runs.start)) c.args.charge (waits_of c.in-Runs.waits.items) (waits_of c.take_run-bytes.new.waits.items) c.self.inside.store.frags c.reserve_for.new.store.frags c.take_run-bytes.result
    (subst (λ v. IsSoundAt c.self.inside.last c.self.inside.store.room c.self.inside.passed.lane c.self.inside.store.frags (working_for v) × HasFew c.self.inside.under.counts.taken (working_for v)) (sym c.replace.ensures.value ∙ c.in-Runs.is) (c.self.invariant.0, c.self.invariant.1))
    (subst (λ fs. TakesRun (to_z w64 (of_z w64 c.in-Runs.start)) c.args.charge (waits_of c.in-Runs.waits.items) c.self.inside.store.frags (waits_of c.take_run-bytes.new.waits.items) fs c.take_run-bytes.result) (sym c.in_ok-reserve_for.ensures.same) c.take_run-bytes.ensures.takes)
    c.in_ok-reserve_for.ensures.room (ap (λ x. x.taken) c.with_taken-self-inside.ensures)
    in (kept.0, kept.1, c.self.invariant.2, c.self.invariant.3, c.self.invariant.4)
