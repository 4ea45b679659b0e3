use Rattle.std.proofs.Common.{◌≡◌, sym, ◌∙◌, ap, subst, ◌+◌, ◌≤◌, ◌^◌, ◌*◌, length, refl, to_z, of_z, w64, ℤ, arith, []}
use Rattle.std.proofs.Math.Facts.{to_z-of_z}
use Rattle.std.specs.Prelude.{max}
use Rattle.reorder.specs.Frags.{EndBy, Ascends}
use Rattle.streamdefs.specs.Direction.{start_of}
use Rattle.flowdir.specs.Boundary.{kind_of}
use Rattle.flowdir.specs.Asking.{Asking}
use Rattle.flowdir.specs.Meeting.{Meets}
use Rattle.flowdir.specs.Counting.{classes_of}
use Rattle.flowdir.proofs.Entering.{enters}
use Rattle.flowdir.specs.Lane.{weight_of_lane, LaneStands}
use Rattle.flowdir.specs.Passing.{weight_of_all}
use Rattle.flowdir.specs.Classes.{at_of}
use Rattle.flowdir.specs.Waits.{waits_of, AreFresh}
use Rattle.flowdir.specs.Kept.{working_for, HeadIs}
use Rattle.flowdir.proofs.Sound.{kept_entered, kept_idle}
use Rattle.flowdir.proofs.Lefts.{enter_adds}
use Rattle.flowdir.proofs.dir.Dir.enter.Goals as goal

pub returns-in_err-running-clause-weight : goal.returns-in_err-running-clause-weight
returns-in_err-running-clause-weight g c = λ w.
    ap (λ n. weight_of_lane w c.self.inside.passed.lane + n) (c.start_runs.ensures.weight w) ∙ ap (λ k. weight_of_all w k.lane k.frags) c.self.view_is

pub returns-in_err-reserve_for-clause-weight : goal.returns-in_err-reserve_for-clause-weight
returns-in_err-reserve_for-clause-weight g c = λ w.
    ap (λ fs. weight_of_all w c.self.inside.passed.lane fs) c.reserve_for.ensures.same ∙ ap (λ n. weight_of_lane w c.self.inside.passed.lane + n) (c.start_runs.ensures.weight w) ∙ ap (λ k. weight_of_all w k.lane k.frags) c.self.view_is

pub returns-clause-weight : goal.returns-clause-weight
returns-clause-weight g c = λ w.
    ap (λ fs. weight_of_all w c.self.inside.passed.lane fs) c.reserve_for.ensures.same ∙ ap (λ n. weight_of_lane w c.self.inside.passed.lane + n) (c.start_runs.ensures.weight w) ∙ ap (λ k. weight_of_all w k.lane k.frags) c.self.view_is

pub start_runs-requires-clause-near : goal.start_runs-requires-clause-near
start_runs-requires-clause-near g c =
    let S : ℤ = to_z w64 (of_z w64 c.args.start) in
    let near : max c.self.inside.passed.lane.front (at_of S) + 262144 ≤ c.self.inside.last * 2 ^ 32 =
    subst (λ (z : ℤ). max c.self.inside.passed.lane.front (at_of z) + 262144 ≤ c.self.inside.last * 2 ^ 32) (sym (to_z-of_z c.ranges.start)) (subst (λ k. max k.lane.front (at_of c.args.start) + 262144 ≤ k.last * 2 ^ 32) (sym c.self.view_is) c.requires.near) in
    let kept = kept_idle c.self.inside.last c.self.inside.store.room c.self.inside.passed.lane c.self.inside.store.frags (working_for c.self.inside.work) (ap (λ k. k.work) c.self.view_is ∙ c.requires.idle) c.self.invariant.0 in
    omega (arith, near, kept.last_is)

pub invariant_of-self-2 : goal.invariant_of-self-2
invariant_of-self-2 g c =
    let S : ℤ = to_z w64 (of_z w64 c.args.start) in
    let near : max c.self.inside.passed.lane.front (at_of S) + 262144 ≤ c.self.inside.last * 2 ^ 32 =
    subst (λ (z : ℤ). max c.self.inside.passed.lane.front (at_of z) + 262144 ≤ c.self.inside.last * 2 ^ 32) (sym (to_z-of_z c.ranges.start)) (subst (λ k. max k.lane.front (at_of c.args.start) + 262144 ≤ k.last * 2 ^ 32) (sym c.self.view_is) c.requires.near) in
    let kept =
    kept_entered c.self.inside.last c.self.inside.store.room c.reserve_for.new.store.room c.in_ok-running.running.counts.taken (max c.self.inside.passed.lane.front (at_of S)) c.self.inside.passed.lane
    c.self.inside.store.frags c.reserve_for.new.store.frags S (waits_of c.in_ok-running.running.waits.items)
    (kept_idle c.self.inside.last c.self.inside.store.room c.self.inside.passed.lane c.self.inside.store.frags (working_for c.self.inside.work) (ap (λ k. k.work) c.self.view_is ∙ c.requires.idle) c.self.invariant.0)
    (λ most e. subst (λ fs. EndBy most fs) (sym c.in_ok-reserve_for.ensures.same) (c.start_runs.ensures.ends most e))
    (subst (λ fs. Ascends c.self.inside.passed.lane.front fs) (sym c.in_ok-reserve_for.ensures.same) c.start_runs.ensures.ascends)
    (subst (λ fs. AreFresh (max c.self.inside.passed.lane.front (at_of S)) (max c.self.inside.passed.lane.front (at_of S) + 262144) fs (waits_of c.in_ok-running.running.waits.items)) (sym c.in_ok-reserve_for.ensures.same) c.in_ok-running.ensures.fresh)
    (omega arith) near c.in_ok-running.ensures.taken c.in_ok-reserve_for.ensures.room in
    (kept.0, kept.1, c.self.invariant.2, c.requires.soon, c.self.invariant.4)

pub returns-clause-runs : goal.returns-clause-runs
returns-clause-runs g c = λ paid t d s pieces p l mo f st hd h m ls.
    let S : ℤ = to_z w64 (of_z w64 c.args.start) in
    let back = sym c.self.view_is in
    let kind = kind_of c.self.inside.mode in
    let meets = subst (λ k. Meets paid k.lane k.frags d) back m in
    let starts : S ≡ start_of kind d s = to_z-of_z c.ranges.start ∙ subst (λ k. c.args.start ≡ start_of (kind_of k.mode) d s) back st in
    enters paid _ t d s pieces S c.reserve_for.new.store.frags (waits_of c.in_ok-running.running.waits.items) _ c.least.result
    (subst (λ fs. Asking paid t kind d s [] S fs (waits_of c.in_ok-running.running.waits.items) (classes_of c.in_ok-running.running.counts)) (sym c.in_ok-reserve_for.ensures.same)
    (c.in_ok-running.ensures.asking paid t kind d s p l f starts meets))
    (subst (λ k. HeadIs k (kind_of k.mode) d s) back hd) (subst (λ k. d.hole ≡ k.hole) back h) meets (subst (λ k. LaneStands paid k.lane d.view.flow d.pending pieces []) back ls)
    (kept_idle c.self.inside.last c.self.inside.store.room c.self.inside.passed.lane c.self.inside.store.frags (working_for c.self.inside.work) (ap (λ k. k.work) c.self.view_is ∙ c.requires.idle) c.self.invariant.0).ascends
    c.least.ensures (sym mo) c.front-front.ensures.front c.is_none-bare.ensures

pub returns-clause-left : goal.returns-clause-left
returns-clause-left g c =
    enter_adds (length c.args.payload.now) (to_z w64 (of_z w64 c.args.start)) (waits_of c.in_ok-running.running.waits.items) c.args.self.now _ c.requires.idle refl c.in_ok-running.ensures.runs
    (ap length c.in_ok-reserve_for.ensures.same ∙ c.in_ok-running.ensures.parts ∙ ap (λ k. length k.frags) c.self.view_is) (ap (λ k. k.lane) c.self.view_is) (ap (λ k. k.hole) c.self.view_is)
