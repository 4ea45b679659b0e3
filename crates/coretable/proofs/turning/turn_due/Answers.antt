use Rattle.std.proofs.Common.{◌∙◌, ap, sym, Some}
use Rattle.convo.specs.Seen.{packet_of}
use Rattle.coretable.specs.Course.{core_of, due_by, due_line, has_room}
use Rattle.coretable.specs.Standing.{job_of}
use Rattle.coretable.proofs.Soundness.{at_rest}
use Rattle.coretable.proofs.FinishLemmas.{full_not, roomy}
use Rattle.coretable.proofs.PlanLemmas.{end_choice, packet_choice, step_goes}
use Rattle.coretable.proofs.turning.turn_due.Goals as goal

pub returns-then-is_full-clause-packet : goal.returns-then-is_full-clause-packet
returns-then-is_full-clause-packet g c t last handler m p set s e k j n w there = c.fill.ensures.turn t m (due_line there.due) e k (packet_choice t m (packet_of p) (Some there.due) w (sym k.job ∙ ap job_of j) (ap (due_by t (core_of t m)) (sym n) ∙ there.first)) (full_not (has_room (core_of t m)) c.is_full.result (c.is_full.ensures.turn t m e k (at_rest t last handler m s e).answered) c.if-is_full.true)

pub returns-then-is_full-clause-end : goal.returns-then-is_full-clause-end
returns-then-is_full-clause-end g c t last handler m set s e k j w there = c.fill.ensures.turn t m (due_line there.due) e k (end_choice t m c.args.now (Some there.due) w j there.first) (full_not (has_room (core_of t m)) c.is_full.result (c.is_full.ensures.turn t m e k (at_rest t last handler m s e).answered) c.if-is_full.true)

pub returns-clause-packet : goal.returns-clause-packet
returns-clause-packet g c t last handler m p set s e k j n w there =
    c.begin_due.ensures.turn t last handler m there.one there.due set s e k there.there there.own there.falls (step_goes t m (due_line there.due) e (packet_choice t m (packet_of p) (Some there.due) w (sym k.job ∙ ap job_of j) (ap (due_by t (core_of t m)) (sym n) ∙ there.first)) (roomy (has_room (core_of t m)) c.is_full.result (c.is_full.ensures.turn t m e k (at_rest t last handler m s e).answered) c.if-is_full.false))

pub returns-clause-end : goal.returns-clause-end
returns-clause-end g c t last handler m set s e k j w there =
    c.begin_due.ensures.turn t last handler m there.one there.due set s e k there.there there.own there.falls (step_goes t m (due_line there.due) e (end_choice t m c.args.now (Some there.due) w j there.first) (roomy (has_room (core_of t m)) c.is_full.result (c.is_full.ensures.turn t m e k (at_rest t last handler m s e).answered) c.if-is_full.false))
