use Rattle.std.proofs.Common.{[], ◌≡◌, ◌∙◌, ap, subst, sym, refl, true, false, Bool, ℕ, cond}
use Rattle.evring.specs.declared.reason.Reason.TheVariants.{Idle}
use Rattle.streamdefs.specs.Convo.Act.{Time, End}
use Rattle.coretable.specs.Course.{begun, step, GoesOn}
use Rattle.coretable.specs.Course.Step.{Goes}
use Rattle.coretable.proofs.Soundness.{step_is_sound}
use Rattle.coretable.proofs.CompleteLemmas.{if_ok}
use Rattle.coretable.proofs.falling_due.begin_due.Goals as goal

pub returns-then-idle-clause-turn : goal.returns-then-idle-clause-turn
returns-then-idle-clause-turn g c t last handler m o d set s e k at own falls goes =
    let due : (c.in-Ok.at, c.in-Ok.idle) ≡ (d.at, d.idle) = c.in-Ok.ensures t m o (d.at, d.idle) set e k at falls in
    let idle : d.idle ≡ true = ap (λ (x : ℕ × Bool). x.1) (sym due) ∙ c.if-idle.true in
    let next = begun m (record { conv = o.id; act = End c.in-Ok.at Idle [] [] }) in
    let steps : step t m ≡ Goes next = goes ∙ (λ i. Goes (begun m (record { conv = own i; act = cond (idle i) (End (sym due i).0 Idle [] []) (Time (sym due i).0 [] []) }))) in
    if_ok c.begin_end.result (c.begin_end.ensures.turn t last handler m o set s e k at (step_is_sound t last handler m next s steps)) (λ x h. (1, next, subst (GoesOn (λ q. q ≡ next)) (sym steps) refl, h))

pub returns-else-idle-clause-turn : goal.returns-else-idle-clause-turn
returns-else-idle-clause-turn g c t last handler m o d set s e k at own falls goes =
    let due : (c.in-Ok.at, c.in-Ok.idle) ≡ (d.at, d.idle) = c.in-Ok.ensures t m o (d.at, d.idle) set e k at falls in
    let idle : d.idle ≡ false = ap (λ (x : ℕ × Bool). x.1) (sym due) ∙ c.if-idle.false in
    let next = begun m (record { conv = o.id; act = Time c.in-Ok.at [] [] }) in
    let steps : step t m ≡ Goes next = goes ∙ (λ i. Goes (begun m (record { conv = own i; act = cond (idle i) (End (sym due i).0 Idle [] []) (Time (sym due i).0 [] []) }))) in
    if_ok c.begin_time.result (c.begin_time.ensures.turn t last handler m o set s e k at (step_is_sound t last handler m next s steps)) (λ x h. (1, next, subst (GoesOn (λ q. q ≡ next)) (sym steps) refl, h))
