use Rattle.flowdir.specs.Boundary.{charge_by}
use Rattle.coretable.specs.Held.{StandsFor}
use Rattle.coretable.specs.Course.{core_of, has_room}
use Rattle.coretable.proofs.Soundness.{at_rest}
use Rattle.coretable.proofs.FinishLemmas.{full_not, owed_choice}
use Rattle.coretable.proofs.PlanLemmas.{is_owing}
use Rattle.coretable.proofs.turning.turn_owed.Goals as goal

pub returns-then-is_full-clause-turn : goal.returns-then-is_full-clause-turn
returns-then-is_full-clause-turn g c t last handler m set s e k o =
    let w = is_owing (StandsFor (charge_by g.C.Charge.amount g.C.Charge.stamp) t) t m c.args.desk.now c.args.owed e k o in
    c.fill.ensures.turn t m _ e k (owed_choice t m w.owed w.is) (full_not (has_room (core_of t m)) c.is_full.result (c.is_full.ensures.turn t m e k (at_rest t last handler m s e).answered) c.if-is_full.true)
