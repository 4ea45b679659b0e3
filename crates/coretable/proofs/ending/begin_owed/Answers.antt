use Rattle.flowdir.specs.Boundary.{charge_by}
use Rattle.coretable.specs.Held.{StandsFor}
use Rattle.std.proofs.Common.{[], ◌≡◌, ◌∙◌, subst, sym, refl}
use Rattle.streamdefs.specs.Convo.Act.{End}
use Rattle.coretable.specs.Course.{begun, GoesOn}
use Rattle.coretable.specs.Course.Step.{Goes}
use Rattle.coretable.proofs.Soundness.{step_is_sound}
use Rattle.coretable.proofs.CompleteLemmas.{if_ok}
use Rattle.coretable.proofs.PlanLemmas.{is_owing, step_owes}
use Rattle.coretable.proofs.ending.begin_owed.Goals as goal

pub returns-clause-turn : goal.returns-clause-turn
returns-clause-turn g c t last handler m set s e k o r =
    let w = is_owing (StandsFor (charge_by g.C.Charge.amount g.C.Charge.stamp) t) t m c.args.desk.now c.args.owed e k o in
    let goes = step_owes t m w.owed e w.is r ∙ (λ i. Goes (begun m (record { conv = w.owed.conv; act = End (sym w.at i) (sym w.reason i) [] [] }))) in
    let next = begun m (record { conv = w.owed.conv; act = End c.args.owed.at c.args.owed.reason [] [] }) in
    if_ok c.begin_end.result
    (c.begin_end.ensures.turn t last handler m (record { id = w.owed.conv; convo = w.convo }) set s e k w.there (step_is_sound t last handler m next s goes))
    (λ x h. (1, next, subst (GoesOn (λ q. q ≡ next)) (sym goes) refl, h))
