use Rattle.flowdir.specs.Boundary.{charge_by}
use Rattle.coretable.specs.Held.{StandsFor}
use Rattle.std.proofs.Common.{◌+◌, ◌∙◌, ◌++◌, [], ◌∷◌}
use Rattle.coretable.proofs.SettleLemmas.{emits}
use Rattle.coretable.proofs.StepLemmas.{events_left, step_left}
use Rattle.coretable.specs.Weighed.{weight_of_active}
use Rattle.convo.specs.Weights.{weight_of_event}
use Rattle.coretable.proofs.settling.settle_event.Goals as goal

pub returns-in-Ok-clause-turn : goal.returns-in-Ok-clause-turn
returns-in-Ok-clause-turn g c t m u k act f turn =
    emits (StandsFor (charge_by g.C.Charge.amount g.C.Charge.stamp) t) (charge_by g.C.Charge.amount g.C.Charge.stamp) t m u c.args.active c.args.desk.now c.note_event.new.desk c.args.event k act f turn
    (c.in-Ok.ensures.queue ∙ (λ i. c.args.desk.now.unanswered.items ++ record { place = c.args.active.place; of = c.kind_of-of.ensures i } ∷ [])) c.note_event.ensures.rest

pub returns-in-Err-clause-step : goal.returns-in-Err-clause-step
returns-in-Err-clause-step g c limit =
    step_left (charge_by g.C.Charge.amount g.C.Charge.stamp) limit c.args.desk.now c.note_event.new.desk (λ w. weight_of_active w c.args.active + weight_of_event w c.args.event) c.with_event.result
    (events_left c.args.desk.now c.note_event.new.desk (λ w. weight_of_active w c.args.active + weight_of_event w c.args.event) _ c.note_event.ensures.rest c.in-Err.ensures.none (λ w. c.with_event.ensures w))
