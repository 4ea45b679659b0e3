use Rattle.std.proofs.Common.{◌∙◌, ap, subst}
use Rattle.reorder.specs.Frags.{Ascends}
use Rattle.flowdir.specs.Kept.{working_for}
use Rattle.flowdir.proofs.Answering.{if_ok}
use Rattle.flowdir.proofs.Sound.{kept_idle}
use Rattle.flowdir.proofs.EntrySteps.{due_step}
use Rattle.streamdefs.specs.Direction.{no_counts}
use Rattle.flowdir.specs.Kept.{due_way, due_cuts}
use Rattle.flowdir.proofs.Lefts.{entry_adds, due_lowers}
use Rattle.flowdir.proofs.dir.Dir.fall_due.Goals as goal

pub returns-clause-step : goal.returns-clause-step
returns-clause-step g c =
    if_ok c.after.result _ _ (λ step n paid t d pieces shape st.
    due_step paid c.args.self.now c.after.new.self step c.args.shape.now.chunk c.args.shape.now.overlap c.args.shape.now.flush c.args.shape.now.hole c.args.at t d pieces shape.chunk shape.overlap shape.flush shape.hole c.requires.idle st
    (subst (λ k. Ascends k.lane.front k.frags) c.self.view_is
    (kept_idle c.self.inside.last c.self.inside.store.room c.self.inside.passed.lane c.self.inside.store.frags (working_for c.self.inside.work) (ap (λ k. k.work) c.self.view_is ∙ c.requires.idle) c.self.invariant.0).ascends)
    n) c.after.ensures.goes_on

pub returns-clause-left : goal.returns-clause-left
returns-clause-left g c =
    if_ok c.after.result _ _ (λ step n.
    entry_adds (due_way c.args.shape.now.hole c.args.at c.args.self.now) (due_cuts c.args.shape.now.chunk c.args.shape.now.overlap c.args.shape.now.flush c.args.at) c.args.at no_counts c.args.self.now c.after.new.self step c.requires.idle n) c.after.ensures.goes_on

pub returns-clause-due : goal.returns-clause-due
returns-clause-due g c =
    if_ok c.after.result _ _ (λ step n d.
    due_lowers c.args.shape.now.hole c.args.shape.now.flush c.args.shape.now.chunk c.args.shape.now.overlap c.args.at no_counts c.args.self.now c.after.new.self step c.requires.idle n d) c.after.ensures.goes_on
