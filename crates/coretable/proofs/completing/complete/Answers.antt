use Rattle.flowdir.specs.Boundary.{charge_by}
use Rattle.coretable.specs.Held.{StandsFor}
use Rattle.std.proofs.Common.{◌∙◌, ◌+◌, ap, ◌++◌, [], ◌∷◌}
use Rattle.convo.specs.Talk.{talk_after}
use Rattle.coretable.specs.Standing.{talk_before}
use Rattle.coretable.proofs.CompleteLemmas.{completes}
use Rattle.convo.specs.Standing.{weight_of_convo}
use Rattle.coretable.specs.Steps.{nothing}
use Rattle.coretable.specs.Weighed.{weight_of_active, weight_of_desk, weight_of_hand}
use Rattle.coretable.proofs.StepLemmas.{book_moved, goes_back, moments_moved, moved_on, same_moved}
use Rattle.coretable.proofs.completing.complete.Goals as goal

pub returns-clause-turn : goal.returns-clause-turn
returns-clause-turn g c t last handler m u set sound k act rest st =
    completes (StandsFor (charge_by g.C.Charge.amount g.C.Charge.stamp) t) t last handler m u c.args.active c.args.desk.now c.note_due.new.desk c.put_back.new.desk c.note_moment.new.desk c.enter.new.desk c.ending-ending.result c.due-due.result sound k act rest st
    (c.ending-ending.ensures t (talk_after t (talk_before t m u) u.line.act) st)
    (c.due-due.ensures t (talk_after t (talk_before t m u) u.line.act) set st)
    c.note_due.ensures c.in_default.ensures.slots c.put_back.ensures.rest c.in-Ok.ensures.dues c.note_moment.ensures.rest
    (c.in-Ok-enter.ensures.book ∙ (λ i. c.note_moment.new.desk.book.items ++ record { conv = c.args.active.number; entry = c.entry_of.ensures i } ∷ [])) c.enter.ensures.rest

pub returns-in-Err-clause-step : goal.returns-in-Err-clause-step
returns-in-Err-clause-step g c =
    goes_back c.args.desk.now c.note_due.new.desk c.put_back.new.desk c.args.active _ _ (λ w. weight_of_hand w c.of.result) c.note_due.ensures c.put_back.ensures.rest
    (λ w. ap (λ n. weight_of_desk w c.put_back.new.desk + n) (c.of.ensures.weight w) ∙ c.in-Err.ensures.size (weight_of_convo w))

pub returns-in_default-note_moment-clause-step : goal.returns-in_default-note_moment-clause-step
returns-in_default-note_moment-clause-step g c =
    moved_on c.args.desk.now c.put_back.new.desk c.note_moment.new.desk (λ w. weight_of_active w c.args.active) nothing (λ w. weight_of_hand w c.empty.result)
    (goes_back c.args.desk.now c.note_due.new.desk c.put_back.new.desk c.args.active _ _ nothing c.note_due.ensures c.put_back.ensures.rest (λ w. c.in_default.ensures.size (weight_of_convo w)))
    (moved_on c.put_back.new.desk c.note_moment.new.desk c.note_moment.new.desk nothing nothing (λ w. weight_of_hand w c.empty.result) (moments_moved c.put_back.new.desk c.note_moment.new.desk nothing c.note_moment.ensures.rest)
    (same_moved c.note_moment.new.desk nothing (λ w. weight_of_hand w c.empty.result) c.empty.ensures))

pub returns-in_default-enter-clause-step : goal.returns-in_default-enter-clause-step
returns-in_default-enter-clause-step g c =
    moved_on c.args.desk.now c.put_back.new.desk c.enter.new.desk (λ w. weight_of_active w c.args.active) nothing (λ w. weight_of_hand w c.empty-in_default-enter.result)
    (goes_back c.args.desk.now c.note_due.new.desk c.put_back.new.desk c.args.active _ _ nothing c.note_due.ensures c.put_back.ensures.rest (λ w. c.in_default.ensures.size (weight_of_convo w)))
    (moved_on c.put_back.new.desk c.note_moment.new.desk c.enter.new.desk nothing nothing (λ w. weight_of_hand w c.empty-in_default-enter.result) (moments_moved c.put_back.new.desk c.note_moment.new.desk nothing c.note_moment.ensures.rest)
    (moved_on c.note_moment.new.desk c.enter.new.desk c.enter.new.desk nothing nothing (λ w. weight_of_hand w c.empty-in_default-enter.result) (book_moved c.note_moment.new.desk c.enter.new.desk nothing c.enter.ensures.rest)
    (same_moved c.enter.new.desk nothing (λ w. weight_of_hand w c.empty-in_default-enter.result) c.empty-in_default-enter.ensures)))

pub returns-clause-step : goal.returns-clause-step
returns-clause-step g c =
    moved_on c.args.desk.now c.put_back.new.desk c.enter.new.desk (λ w. weight_of_active w c.args.active) nothing nothing
    (goes_back c.args.desk.now c.note_due.new.desk c.put_back.new.desk c.args.active _ _ nothing c.note_due.ensures c.put_back.ensures.rest (λ w. c.in_default.ensures.size (weight_of_convo w)))
    (moved_on c.put_back.new.desk c.note_moment.new.desk c.enter.new.desk nothing nothing nothing (moments_moved c.put_back.new.desk c.note_moment.new.desk nothing c.note_moment.ensures.rest)
    (book_moved c.note_moment.new.desk c.enter.new.desk nothing c.enter.ensures.rest))
