use Rattle.std.proofs.Common.{[], ◌≡◌, ◌∙◌, ap, subst, sym, refl, None}
use Rattle.evring.specs.declared.reason.Reason.TheVariants.{Finish}
use Rattle.streamdefs.specs.Convo.Act.{End}
use Rattle.streamdefs.specs.Core.{Line}
use Rattle.coretable.specs.Course.{begun, closing_choice, GoesOn}
use Rattle.coretable.proofs.Soundness.{step_is_sound}
use Rattle.coretable.proofs.CompleteLemmas.{if_ok}
use Rattle.coretable.proofs.PlanLemmas.{end_choice, step_goes}
use Rattle.coretable.proofs.finishing.begin_first.Goals as goal

pub returns-clause-turn : goal.returns-clause-turn
returns-clause-turn g c t last handler m o set s e k w j d f at r =
    let line : Line = record { conv = o.id; act = End c.args.at Finish [] [] } in
    let goes = step_goes t m line e (end_choice t m c.args.at None w j d ∙ ap (closing_choice c.args.at) f) r in
    if_ok c.begin_end.result (c.begin_end.ensures.turn t last handler m o set s e k at (step_is_sound t last handler m (begun m line) s goes))
    (λ x h. (1, begun m line, subst (GoesOn (λ q. q ≡ begun m line)) (sym goes) refl, h))
