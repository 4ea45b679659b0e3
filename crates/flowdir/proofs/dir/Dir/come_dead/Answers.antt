use Rattle.std.proofs.Common.{refl, sym, ◌∙◌, ap, subst, ◌<◌, ◌^◌, length}
use Rattle.reorder.specs.Frags.{Ascends}
use Rattle.flowdir.specs.Boundary.{segment_of, kind_of, number_of}
use Rattle.flowdir.specs.Heading.{Tells, AimsAt}
use Rattle.flowdir.specs.Kept.{GoesOn, advanced, cuts_for, entered, working_for}
use Rattle.flowdir.specs.declared.advance.Advance.TheVariants.{Stay}
use Rattle.flowdir.proofs.Answering.{if_ok}
use Rattle.flowdir.proofs.Reach.{front_fits, sent_fits, sent_next, number_rises}
use Rattle.flowdir.proofs.Sound.{kept_idle}
use Rattle.flowdir.proofs.EntrySteps.{dead_step}
use Rattle.flowdir.specs.Counting.{classes_of}
use Rattle.flowdir.specs.Left.{grants_left, work_left}
use Rattle.flowdir.proofs.Lefts.{dead_adds}
use Rattle.flowdir.proofs.dir.Dir.come_dead.Goals as goal

pub aim-aim-requires-clause-near : goal.aim-aim-requires-clause-near
aim-aim-requires-clause-near g c =
    let kept = kept_idle c.self.inside.last c.self.inside.store.room c.self.inside.passed.lane c.self.inside.store.frags (working_for c.self.inside.work) (ap (λ k. k.work) c.self.view_is ∙ c.requires.idle) c.self.invariant.0 in
    (subst (λ n. n < 2 ^ 62) (sym c.front.ensures.front) (front_fits c.self.inside.passed.lane.front c.self.inside.last kept.front kept.last_is), sent_fits c.self.inside.sent c.self.inside.last c.self.invariant.2 kept.last_is)

pub note-requires-clause-last : goal.note-requires-clause-last
note-requires-clause-last g c = number_rises c.args.self.now.last c.args.seg.now.number c.aim-aim.result.head.last c.requires.number.0 c.requires.number.1 c.aim-aim.ensures.last

pub note-requires-clause-sent : goal.note-requires-clause-sent
note-requires-clause-sent g c =
    sent_next c.self.inside.sent c.self.inside.last c.args.seg.now.number (length c.args.seg.now.payload.now) c.aim-aim.result.head.sent c.aim-aim.result.head.last c.self.invariant.2
    (subst (λ k. k.last < c.args.seg.now.number) (sym c.self.view_is) c.requires.number.0) c.requires.few c.aim-aim.ensures.sent c.aim-aim.ensures.last

pub returns-clause-step : goal.returns-clause-step
returns-clause-step g c =
    if_ok c.pass_by.result _ _ (λ step n cutoff paid t d pieces shape st.
    dead_step paid c.args.self.now c.pass_by.new.self c.aim-aim.result step c.args.shape.now.chunk c.args.shape.now.overlap t d (segment_of c.args.seg.now cutoff) pieces shape.chunk shape.overlap c.requires.live c.requires.idle st
    (λ tells. subst (λ k. AimsAt c.aim-aim.result (kind_of k.mode) d (segment_of c.args.seg.now cutoff)) c.self.view_is
    (c.aim-aim.ensures.aims d (segment_of c.args.seg.now cutoff)
    (subst (λ n. Tells (number_of c.self.inside.base) c.self.inside.sent n c.self.inside.fin d) (sym c.front.ensures.front) (subst (λ k. Tells k.base k.sent k.lane.front k.fin d) (sym c.self.view_is) tells))
    (record { seq_is = refl; declared_is = refl; syn_is = refl; fin_is = refl; len_is = refl })))
    (subst (λ k. Ascends k.lane.front k.frags) c.self.view_is
    (kept_idle c.self.inside.last c.self.inside.store.room c.self.inside.passed.lane c.self.inside.store.frags (working_for c.self.inside.work) (ap (λ k. k.work) c.self.view_is ∙ c.requires.idle) c.self.invariant.0).ascends)
    (subst (λ k. GoesOn (advanced Stay (cuts_for c.args.shape.now.chunk c.args.shape.now.overlap) k) c.pass_by.new.self step) (λ i. entered c.args.seg.now.now (c.late_counts-late.ensures i) (c.note.ensures i)) n)) c.pass_by.ensures.goes_on

pub returns-clause-left : goal.returns-clause-left
returns-clause-left g c =
    if_ok c.pass_by.result _ _ (λ step n.
    dead_adds (length c.args.seg.now.payload.now) (cuts_for c.args.shape.now.chunk c.args.shape.now.overlap) c.args.seg.now.now (classes_of c.late_counts-late.result) c.args.self.now c.note.new.self c.pass_by.new.self step
    (ap grants_left c.note.ensures, ap work_left c.note.ensures) (ap (λ k. k.work) c.note.ensures ∙ c.requires.idle) n) c.pass_by.ensures.goes_on
