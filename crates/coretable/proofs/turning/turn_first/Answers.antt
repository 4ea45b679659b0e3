use Rattle.std.proofs.Common.{◌∙◌, ap, None}
use Rattle.coretable.specs.Course.{core_of, has_room}
use Rattle.coretable.proofs.Soundness.{at_rest}
use Rattle.coretable.proofs.FinishLemmas.{full_not, roomy}
use Rattle.coretable.proofs.PlanLemmas.{end_choice}
use Rattle.evring.specs.declared.reason.Reason.TheVariants.{Finish}
use Rattle.std.specs.Prelude.{[]}
use Rattle.streamdefs.specs.Convo.Act.{End}
use Rattle.coretable.specs.Course.{closing_choice}
use Rattle.flowdir.specs.Boundary.{charge_by}
use Rattle.coretable.proofs.StepLemmas.{step_after, cursor_moved}
use Rattle.coretable.specs.Steps.{nothing}
use Rattle.coretable.proofs.turning.turn_first.Goals as goal

pub returns-then-is_full-clause-turn : goal.returns-then-is_full-clause-turn
returns-then-is_full-clause-turn g c t last handler m set s e k w j d first =
    let kept = c.look_from.ensures.turn t m e k first.3 in
    c.fill.ensures.turn t m (record { conv = first.0.id; act = End c.args.at Finish [] [] }) e kept (end_choice t m c.args.at None w j d ∙ ap (closing_choice c.args.at) first.1) (full_not (has_room (core_of t m)) c.is_full.result (c.is_full.ensures.turn t m e kept (at_rest t last handler m s e).answered) c.if-is_full.true)

pub returns-clause-turn : goal.returns-clause-turn
returns-clause-turn g c t last handler m set s e k w j d first =
    let kept = c.look_from.ensures.turn t m e k first.3 in
    c.begin_first.ensures.turn t last handler m first.0 set s e kept w j d first.1 first.2 (roomy (has_room (core_of t m)) c.is_full.result (c.is_full.ensures.turn t m e kept (at_rest t last handler m s e).answered) c.if-is_full.false)

pub returns-then-is_full-clause-step : goal.returns-then-is_full-clause-step
returns-then-is_full-clause-step g c closing =
    step_after (charge_by g.C.Charge.amount g.C.Charge.stamp) c.args.set.now.marks.limit c.args.desk.now c.look_from.new.desk c.look_from.new.desk nothing nothing _ (cursor_moved c.args.desk.now c.look_from.new.desk nothing c.args.place c.look_from.ensures.rest)
    (c.fill.ensures.step c.args.set.now.marks.limit (c.is_full.ensures.waits c.if-is_full.true))
