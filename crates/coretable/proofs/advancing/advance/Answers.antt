use Rattle.coretable.specs.Held.{StandsFor}
use Rattle.std.proofs.Common.{refl, subst, ◌∙◌, ap, sym, ◌+◌}
use Rattle.flowdir.specs.Boundary.{charge_by}
use Rattle.coretable.specs.Turns.{IsAt}
use Rattle.coretable.proofs.CompleteLemmas.{if_ok}
use Rattle.coretable.specs.Weighed.{weight_of_desk, weight_of_stage}
use Rattle.coretable.proofs.advancing.advance.Goals as goal

pub returns-in-Again-clause-turn : goal.returns-in-Again-clause-turn
returns-in-Again-clause-turn g c t last handler m set s h = c.ask_again.ensures.turn t m (subst (IsAt (charge_by g.C.Charge.amount g.C.Charge.stamp) (StandsFor (charge_by g.C.Charge.amount g.C.Charge.stamp) t) t m c.args.desk.now) c.in-Again.is h)

pub returns-in-Told-clause-turn : goal.returns-in-Told-clause-turn
returns-in-Told-clause-turn g c t last handler m set s h =
    if_ok c.go_on_told.result (c.go_on_told.ensures.turn t last handler m s set (subst (IsAt (charge_by g.C.Charge.amount g.C.Charge.stamp) (StandsFor (charge_by g.C.Charge.amount g.C.Charge.stamp) t) t m c.args.desk.now) c.in-Told.is h)) (λ x done. (0, m, refl, done))

pub returns-in-Freed-clause-turn : goal.returns-in-Freed-clause-turn
returns-in-Freed-clause-turn g c t last handler m set s h =
    if_ok c.go_on_freed.result (c.go_on_freed.ensures.turn t last handler m s set (subst (IsAt (charge_by g.C.Charge.amount g.C.Charge.stamp) (StandsFor (charge_by g.C.Charge.amount g.C.Charge.stamp) t) t m c.args.desk.now) c.in-Freed.is h)) (λ x done. (0, m, refl, done))

pub returns-in-Emitted-clause-turn : goal.returns-in-Emitted-clause-turn
returns-in-Emitted-clause-turn g c t last handler m set s h =
    if_ok c.go_on_emitted.result (c.go_on_emitted.ensures.turn t last handler m s set (subst (IsAt (charge_by g.C.Charge.amount g.C.Charge.stamp) (StandsFor (charge_by g.C.Charge.amount g.C.Charge.stamp) t) t m c.args.desk.now) c.in-Emitted.is h)) (λ x done. (0, m, refl, done))

pub returns-in-Returned-clause-turn : goal.returns-in-Returned-clause-turn
returns-in-Returned-clause-turn g c t last handler m set s h =
    if_ok c.go_on_returned.result (c.go_on_returned.ensures.turn t last handler m s set (subst (IsAt (charge_by g.C.Charge.amount g.C.Charge.stamp) (StandsFor (charge_by g.C.Charge.amount g.C.Charge.stamp) t) t m c.args.desk.now) c.in-Returned.is h)) (λ x done. (0, m, refl, done))

pub returns-in-Returned-clause-weight : goal.returns-in-Returned-clause-weight
returns-in-Returned-clause-weight g c = λ w. c.go_on_returned.ensures.step.weight w ∙ ap (λ s. weight_of_desk w c.args.desk.now + weight_of_stage w s) (sym c.in-Returned.is)

pub returns-in-Again-clause-weight : goal.returns-in-Again-clause-weight
returns-in-Again-clause-weight g c = λ w. c.ask_again.ensures.step.weight w ∙ ap (λ s. weight_of_desk w c.args.desk.now + weight_of_stage w s) (sym c.in-Again.is)

pub returns-in-Told-clause-weight : goal.returns-in-Told-clause-weight
returns-in-Told-clause-weight g c = λ w. c.go_on_told.ensures.step.weight w ∙ ap (λ s. weight_of_desk w c.args.desk.now + weight_of_stage w s) (sym c.in-Told.is)

pub returns-in-Freed-clause-weight : goal.returns-in-Freed-clause-weight
returns-in-Freed-clause-weight g c = λ w. c.go_on_freed.ensures.step.weight w ∙ ap (λ s. weight_of_desk w c.args.desk.now + weight_of_stage w s) (sym c.in-Freed.is)

pub returns-in-Emitted-clause-weight : goal.returns-in-Emitted-clause-weight
returns-in-Emitted-clause-weight g c = λ w. c.go_on_emitted.ensures.step.weight w ∙ ap (λ s. weight_of_desk w c.args.desk.now + weight_of_stage w s) (sym c.in-Emitted.is)

pub returns-in-Asked-clause-weight : goal.returns-in-Asked-clause-weight
returns-in-Asked-clause-weight g c = λ w. ap (λ n. weight_of_desk w c.args.desk.now + n) (c.of.ensures.weight w ∙ sym (ap (weight_of_stage w) c.in-Asked.is))

pub returns-in-Freeing-clause-weight : goal.returns-in-Freeing-clause-weight
returns-in-Freeing-clause-weight g c = λ w. ap (λ n. weight_of_desk w c.args.desk.now + n) (c.of-in-Freeing.ensures.weight w ∙ sym (ap (weight_of_stage w) c.in-Freeing.is))
