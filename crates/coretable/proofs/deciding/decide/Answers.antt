use Rattle.std.proofs.Common.{◌+◌, sym, subst, ◌∙◌, ap}
use Rattle.flowdir.specs.Boundary.{charge_by}
use Rattle.coretable.specs.Lawfully.{IsSound}
use Rattle.coretable.specs.Table.{IsAtState, granted_weight, look_of, pause_by, told_course, weight_by}
use Rattle.coretable.specs.declared.state.State.TheVariants as M
use Rattle.coretable.proofs.deciding.decide.Goals as goal

pub returns-in-Asked-clause-stands : goal.returns-in-Asked-clause-stands
returns-in-Asked-clause-stands g c t last handler m unspent sound at =
    let paid = charge_by g.C.Charge.amount g.C.Charge.stamp in
    let is = c.in-Works.is ∙ ap M.Works c.in-Asked.is in
    subst (λ s. IsSound t last handler (told_course (look_of (pause_by s) c.args.answered) m) × IsAtState paid t (told_course (look_of (pause_by s) c.args.answered) m) c.args.desk.now c.answer_ask.result) (sym is)
    (c.answer_ask.ensures.stands t last handler m unspent sound (subst (IsAtState paid t m c.args.desk.now) is at))

pub returns-in-Asked-clause-weight : goal.returns-in-Asked-clause-weight
returns-in-Asked-clause-weight g c w = c.answer_ask.ensures.weight w ∙ ap (λ s. weight_by w s + granted_weight w c.args.answered) (sym (c.in-Works.is ∙ ap M.Works c.in-Asked.is))
