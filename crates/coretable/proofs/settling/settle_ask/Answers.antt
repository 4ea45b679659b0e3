use Rattle.coretable.specs.Held.{StandsFor}
use Rattle.flowdir.specs.Boundary.{charge_by}
use Rattle.coretable.proofs.SettleLemmas.{asks}
use Rattle.coretable.proofs.settling.settle_ask.Goals as goal

pub returns-clause-turn : goal.returns-clause-turn
returns-clause-turn g c t m u k act f turn = asks (StandsFor (charge_by g.C.Charge.amount g.C.Charge.stamp) t) (charge_by g.C.Charge.amount g.C.Charge.stamp) t m u c.args.active c.args.desk.now c.args.bytes c.args.mark k act f turn
