use Rattle.std.proofs.Common.{sym, ◌∙◌, ap, is_none, cond, [], ◌++◌}
use Rattle.streamdefs.specs.Direction.{dues_in}
use Rattle.flowdir.specs.Boundary.{least_of}
use Rattle.convo.specs.Standing.{least_by}
use Rattle.convo.proofs.Leasts.{least_append}
use Rattle.convo.proofs.talk.Convo.time_due.Goals as goal

pub returns-else-not-is_timely-clause-stands : goal.returns-else-not-is_timely-clause-stands
returns-else-not-is_timely-clause-stands g c = λ t k s r.
    c.lesser.ensures
    ∙ ap (λ a. least_by a c.due-back.result) (c.due-fore.ensures.stands t k.convo.directions.fore [] s.shape r.fore)
    ∙ ap (λ b. least_by (least_of (dues_in t k.convo.directions.fore)) b) (c.due-back.ensures.stands t k.convo.directions.back [] s.shape r.back)
    ∙ sym (least_append (dues_in t k.convo.directions.fore) (dues_in t k.convo.directions.back))
    ∙ ap (λ e. least_of (cond (is_none e) (dues_in t k.convo.directions.fore ++ dues_in t k.convo.directions.back) [])) (sym (r.quiet.plain.ended_is ∙ c.in-None.is))
