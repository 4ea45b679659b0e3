use Rattle.flowdir.specs.Boundary.{charge_by}
use Rattle.coretable.specs.Held.{StandsFor}
use Rattle.coretable.proofs.SettleLemmas.{rests}
use Rattle.coretable.proofs.settling.settle_rest.Goals as goal

pub returns-in-Ok-clause-turn : goal.returns-in-Ok-clause-turn
returns-in-Ok-clause-turn g c t last handler m u set s k act f turn =
    rests (StandsFor (charge_by g.C.Charge.amount g.C.Charge.stamp) t) (charge_by g.C.Charge.amount g.C.Charge.stamp) t m u c.complete.new.desk act.under turn.0 (c.in-Ok.ensures.turn t last handler m u set s k act turn.0 turn.1)
