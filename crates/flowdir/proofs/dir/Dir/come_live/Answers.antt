use Rattle.std.proofs.Common.{◌≡◌, refl, sym, ◌∙◌, ap, subst, [], w64, ℤ, to_z, of_z, ◌+◌, ◌*◌, ◌<◌, ◌≤◌, ◌^◌, length}
use Rattle.std.specs.Prelude.{max}
use Rattle.std.proofs.Math.Facts.{to_z-of_z}
use Rattle.std.proofs.lemmas.Int.{fits_signed_from_abs}
use Rattle.streamdefs.specs.Direction.{start_of}
use Rattle.flowdir.specs.Lane.{LaneStands}
use Rattle.flowdir.specs.Meeting.{Meets}
use Rattle.flowdir.specs.Classes.{at_of}
use Rattle.flowdir.specs.Boundary.{segment_of, kind_of, number_of}
use Rattle.flowdir.specs.Heading.{Tells, AimsAt}
use Rattle.flowdir.specs.Kept.{HeadIs, working_for, cuts_for}
use Rattle.flowdir.proofs.Answering.{if_ok}
use Rattle.flowdir.proofs.Reach.{front_fits, sent_fits, sent_next, number_rises, ends_near}
use Rattle.flowdir.proofs.Sound.{kept_idle}
use Rattle.flowdir.proofs.EntrySteps.{begin_step}
use Rattle.flowdir.specs.Left.{grants_left, work_left}
use Rattle.flowdir.proofs.Lefts.{live_adds}
use Rattle.flowdir.proofs.dir.Dir.come_live.Goals as goal

pub aim-aim-requires-clause-near : goal.aim-aim-requires-clause-near
aim-aim-requires-clause-near g c =
    let kept = kept_idle c.self.inside.last c.self.inside.store.room c.self.inside.passed.lane c.self.inside.store.frags (working_for c.self.inside.work) (ap (λ k. k.work) c.self.view_is ∙ c.requires.idle) c.self.invariant.0 in
    (subst (λ n. n < 2 ^ 62) (sym c.front.ensures.front) (front_fits c.self.inside.passed.lane.front c.self.inside.last kept.front kept.last_is), sent_fits c.self.inside.sent c.self.inside.last c.self.invariant.2 kept.last_is)

pub note-requires-clause-last : goal.note-requires-clause-last
note-requires-clause-last g c = number_rises c.args.self.now.last c.args.seg.now.number c.aim-aim.result.head.last c.requires.number.0 c.requires.number.1 c.aim-aim.ensures.last

pub note-requires-clause-sent : goal.note-requires-clause-sent
note-requires-clause-sent g c =
    sent_next c.self.inside.sent c.self.inside.last c.args.seg.now.number (length c.args.seg.now.payload.now) c.aim-aim.result.head.sent c.aim-aim.result.head.last c.self.invariant.2
    (subst (λ k. k.last < c.args.seg.now.number) (sym c.self.view_is) c.requires.number.0) c.requires.few c.aim-aim.ensures.sent c.aim-aim.ensures.last

pub enter-requires-clause-near : goal.enter-requires-clause-near
enter-requires-clause-near g c =
    let kept = kept_idle c.self.inside.last c.self.inside.store.room c.self.inside.passed.lane c.self.inside.store.frags (working_for c.self.inside.work) (ap (λ k. k.work) c.self.view_is ∙ c.requires.idle) c.self.invariant.0 in
    let start : to_z w64 (of_z w64 c.aim-aim.result.start) ≡ c.aim-aim.result.start = to_z-of_z (fits_signed_from_abs w64 c.aim-aim.result.start c.aim-aim.ensures.fits) in
    subst (λ (z : ℤ). max c.note.new.self.lane.front (at_of z) + 262144 ≤ c.note.new.self.last * 2 ^ 32) (sym start)
    (subst (λ k. max k.lane.front (at_of c.aim-aim.result.start) + 262144 ≤ k.last * 2 ^ 32) (sym c.note.ensures)
    (subst (λ k. max k.lane.front (at_of c.aim-aim.result.start) + 262144 ≤ c.aim-aim.result.head.last * 2 ^ 32) c.self.view_is
    (ends_near c.self.inside.passed.lane.front c.self.inside.last c.aim-aim.result.head.last c.self.inside.sent c.aim-aim.result.start kept.front c.self.invariant.2
    (subst (λ n. c.self.inside.last < n) (sym c.aim-aim.ensures.last) (subst (λ k. k.last < c.args.seg.now.number) (sym c.self.view_is) c.requires.number.0))
    (subst (λ n. at_of c.aim-aim.result.start ≤ max (n + 2 ^ 31) c.self.inside.sent) c.front.ensures.front c.aim-aim.ensures.near))))

pub returns-clause-step : goal.returns-clause-step
returns-clause-step g c =
    if_ok c.ask_next.result _ _ (λ step n paid t d pieces shape st.
    begin_step paid c.args.self.now c.enter.new.self c.ask_next.new.self c.aim-aim.result step c.args.shape.now.chunk c.args.shape.now.overlap c.args.shape.now.reorder c.args.shape.now.policy c.args.seg.now.now c.args.seg.now.payload.now c.args.cutoff
    t d (segment_of c.args.seg.now c.args.cutoff) pieces shape.policy shape.chunk shape.overlap shape.reorder c.requires.live refl (record { payload_is = refl; cutoff_is = refl }) c.requires.idle st
    (λ tells. subst (λ k. AimsAt c.aim-aim.result (kind_of k.mode) d (segment_of c.args.seg.now c.args.cutoff)) c.self.view_is
    (c.aim-aim.ensures.aims d (segment_of c.args.seg.now c.args.cutoff)
    (subst (λ n. Tells (number_of c.self.inside.base) c.self.inside.sent n c.self.inside.fin d) (sym c.front.ensures.front) (subst (λ k. Tells k.base k.sent k.lane.front k.fin d) (sym c.self.view_is) tells))
    (record { seq_is = refl; declared_is = refl; syn_is = refl; fin_is = refl; len_is = refl })))
    (λ pieces p l mo f start hd h m ls. c.in_ok-enter.ensures.runs paid t d (segment_of c.args.seg.now c.args.cutoff) pieces p l mo f
    (to_z-of_z (fits_signed_from_abs w64 c.aim-aim.result.start c.aim-aim.ensures.fits) ∙ subst (λ k. c.aim-aim.result.start ≡ start_of (kind_of k.mode) d (segment_of c.args.seg.now c.args.cutoff)) (sym c.note.ensures) start)
    (subst (λ k. HeadIs k (kind_of k.mode) d (segment_of c.args.seg.now c.args.cutoff)) (sym c.note.ensures) hd)
    (subst (λ k. d.hole ≡ k.hole) (sym c.note.ensures) h) (subst (λ k. Meets paid k.lane k.frags d) (sym c.note.ensures) m)
    (subst (λ k. LaneStands paid k.lane d.view.flow d.pending pieces []) (sym c.note.ensures) ls))
    (c.enter.ensures.same.0 ∙ ap (λ k. k.mode) c.note.ensures) n) c.ask_next.ensures.asks

pub returns-clause-left : goal.returns-clause-left
returns-clause-left g c =
    if_ok c.ask_next.result _ _ (λ step n.
    live_adds (length c.args.seg.now.payload.now) (cuts_for c.args.shape.now.chunk c.args.shape.now.overlap) c.args.shape.now.reorder c.args.self.now c.note.new.self c.enter.new.self c.ask_next.new.self step
    (ap grants_left c.note.ensures, ap work_left c.note.ensures) c.in_ok-enter.ensures.left c.in_ok-enter.ensures.running n) c.ask_next.ensures.asks
