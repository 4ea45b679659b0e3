use Rattle.std.proofs.Common.{◌∙◌, ap, cond, sym, ◌==◌}
use Rattle.std.specs.FinMap.{get}
use Rattle.coretable.specs.Moments.{moment_of}
use Rattle.coretable.proofs.MomentLemmas.{moment_set, moment_gone}
use Rattle.coretable.proofs.completing.note_moment.Goals as goal

pub returns-in_ok-set-in-Some-clause-dues : goal.returns-in_ok-set-in-Some-clause-dues
returns-in_ok-set-in-Some-clause-dues g c other =
    ap (λ m. get m other) c.in_ok-set-in-Some.ensures.ok ∙ moment_set c.args.desk.now.dues c.in-Ok.id c.in-Some.moment other
    ∙ (λ i. cond (c.in-Ok.ensures.1 i == other) (moment_of (sym c.in-Some.is i)) (get c.args.desk.now.dues other))

pub returns-in-None-clause-dues : goal.returns-in-None-clause-dues
returns-in-None-clause-dues g c other =
    ap (λ m. get m other) c.remove.ensures ∙ moment_gone c.args.desk.now.dues c.in-Ok.id other
    ∙ (λ i. cond (c.in-Ok.ensures.1 i == other) (moment_of (sym c.in-None.is i)) (get c.args.desk.now.dues other))
