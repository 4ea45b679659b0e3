use Rattle.std.proofs.Common.{refl, inl, inr}
use Rattle.scapconf.specs.declared.status.Status.TheVariants.{Done}
use Rattle.labtop.proofs.DrillLemmas.{all_done, allowed, built, has_history, has_read, parts_left, written}
use Rattle.labtop.proofs.drill.drill_with.Goals as goal

pub returns-in-Err-outcome_for-clause-verdict : goal.returns-in-Err-outcome_for-clause-verdict
returns-in-Err-outcome_for-clause-verdict g c = allowed c.args.settings.now _ _ _ _ _ c.without_report-in-Err-outcome_for.ensures.status
    (has_read c.args.settings.now _ _ _ c.in-Ok.bytes.items _ c.deref.ensures.value (c.in-Ok.ensures.asked c.args.settings.now (built _ _ c.is_built.ensures c.if-not-is_built.false)) c.in-Err-outcome_for.ensures)

pub returns-in-Ok-write_both-clause-verdict : goal.returns-in-Ok-write_both-clause-verdict
returns-in-Ok-write_both-clause-verdict g c = written c.args.settings.now _ _ c.in-Ok-outcome_for.outcome Done _ _ refl
    (has_read c.args.settings.now _ _ _ c.in-Ok.bytes.items _ c.deref.ensures.value (c.in-Ok.ensures.asked c.args.settings.now (built _ _ c.is_built.ensures c.if-not-is_built.false)) c.in-Ok-outcome_for.ensures)
    (inl refl)

pub returns-in-Ok-write_both-clause-done : goal.returns-in-Ok-write_both-clause-done
returns-in-Ok-write_both-clause-done g c = λ done. all_done c.args.settings.now _ _ c.in-Ok-outcome_for.outcome _ _ _ _ _ c.in-Ok.ensures.files
    (has_read c.args.settings.now _ _ _ c.in-Ok.bytes.items _ c.deref.ensures.value (c.in-Ok.ensures.asked c.args.settings.now (built _ _ c.is_built.ensures c.if-not-is_built.false)) c.in-Ok-outcome_for.ensures)
    c.in-Ok-write_both.ensures.ok

pub returns-in-Ok-write_both-clause-parts : goal.returns-in-Ok-write_both-clause-parts
returns-in-Ok-write_both-clause-parts g c = parts_left c.args.settings.now _ _ c.in-Ok-outcome_for.outcome _ _ _ _ _ c.in-Ok.ensures.files
    (has_read c.args.settings.now _ _ _ c.in-Ok.bytes.items _ c.deref.ensures.value (c.in-Ok.ensures.asked c.args.settings.now (built _ _ c.is_built.ensures c.if-not-is_built.false)) c.in-Ok-outcome_for.ensures)
    c.in-Ok-write_both.ensures.delivery_part c.in-Ok-write_both.ensures.report_part c.in-Ok-write_both.ensures.in_turn

pub returns-in-Ok-write_both-clause-history : goal.returns-in-Ok-write_both-clause-history
returns-in-Ok-write_both-clause-history g c = λ done. has_history c.args.settings.now c.in-Ok-outcome_for.outcome _ c.in-Ok-outcome_for.ensures

pub returns-clause-verdict : goal.returns-clause-verdict
returns-clause-verdict g c = written c.args.settings.now _ _ c.in-Ok-outcome_for.outcome _ _ _ c.without_report-in-Err-write_both.ensures.status
    (has_read c.args.settings.now _ _ _ c.in-Ok.bytes.items _ c.deref.ensures.value (c.in-Ok.ensures.asked c.args.settings.now (built _ _ c.is_built.ensures c.if-not-is_built.false)) c.in-Ok-outcome_for.ensures)
    (inr c.in-Err-write_both.ensures.kinds)

pub returns-clause-parts : goal.returns-clause-parts
returns-clause-parts g c = parts_left c.args.settings.now _ _ c.in-Ok-outcome_for.outcome _ _ _ _ _ c.in-Ok.ensures.files
    (has_read c.args.settings.now _ _ _ c.in-Ok.bytes.items _ c.deref.ensures.value (c.in-Ok.ensures.asked c.args.settings.now (built _ _ c.is_built.ensures c.if-not-is_built.false)) c.in-Ok-outcome_for.ensures)
    c.in-Err-write_both.ensures.delivery_part c.in-Err-write_both.ensures.report_part c.in-Err-write_both.ensures.in_turn
