use Rattle.coretable.specs.Held.{StandsFor}
use Rattle.flowdir.specs.Boundary.{charge_by}
use Rattle.coretable.proofs.SettleLemmas.{frees}
use Rattle.coretable.proofs.settling.settle_free.Goals as goal

pub returns-clause-turn : goal.returns-clause-turn
returns-clause-turn g c t m u k act f turn = frees (StandsFor (charge_by g.C.Charge.amount g.C.Charge.stamp) t) (charge_by g.C.Charge.amount g.C.Charge.stamp) t m u c.args.active c.args.desk.now c.args.charge c.amount-bytes.result c.stamp-stamp.result c.amount-bytes.ensures k act f turn
