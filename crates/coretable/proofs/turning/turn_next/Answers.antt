use Rattle.std.proofs.Common.{◌∙◌, ap, sym, None}
use Rattle.convo.specs.Seen.{packet_of}
use Rattle.coretable.specs.Course.{core_of, due_by, has_room}
use Rattle.coretable.specs.Standing.{job_of}
use Rattle.coretable.proofs.Soundness.{at_rest}
use Rattle.coretable.proofs.FinishLemmas.{full_not}
use Rattle.coretable.proofs.PlanLemmas.{packet_choice}
use Rattle.streamdefs.specs.Core.{latest_of}
use Rattle.coretable.specs.Course.{packet_line}
use Rattle.coretable.proofs.turning.turn_next.Goals as goal

pub returns-then-is_full-clause-turn : goal.returns-then-is_full-clause-turn
returns-then-is_full-clause-turn g c t last handler m p set s e k j n w d =
    c.fill.ensures.turn t m (packet_line t (packet_of p) (latest_of p.key (core_of t m).convos)) e k
    (packet_choice t m (packet_of p) None w (sym k.job ∙ ap job_of j) (ap (due_by t (core_of t m)) (sym n) ∙ d)) (full_not (has_room (core_of t m)) c.is_full.result (c.is_full.ensures.turn t m e k (at_rest t last handler m s e).answered) c.if-is_full.true)
