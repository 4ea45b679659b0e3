use Rattle.std.proofs.Common.{◌≡◌, ◌∙◌, ap, subst, sym, refl, None}
use Rattle.streamdefs.specs.Core.{latest_of}
use Rattle.convo.specs.Seen.{packet_of}
use Rattle.coretable.specs.Course.{begun, core_of, due_by, packet_line, GoesOn}
use Rattle.coretable.specs.Standing.{job_of}
use Rattle.coretable.proofs.Soundness.{step_is_sound}
use Rattle.coretable.proofs.CompleteLemmas.{if_ok}
use Rattle.coretable.proofs.PlanLemmas.{packet_choice, step_goes}
use Rattle.coretable.proofs.loading.begin_next.Goals as goal

pub returns-clause-turn : goal.returns-clause-turn
returns-clause-turn g c t last handler m p set s e k j n w d r =
    let line = packet_line t (packet_of p) (latest_of p.key (core_of t m).convos) in
    let goes = step_goes t m line e (packet_choice t m (packet_of p) None w (sym k.job ∙ ap job_of j) (ap (due_by t (core_of t m)) (sym n) ∙ d)) r in
    if_ok c.begin_planned.result
    (c.begin_planned.ensures.turn t last handler m p set s e k j n (c.in-Ok.ensures t last handler m p set s e k j) (step_is_sound t last handler m (begun m line) s goes))
    (λ x h. (1, begun m line, subst (GoesOn (λ q. q ≡ begun m line)) (sym goes) refl, h))
