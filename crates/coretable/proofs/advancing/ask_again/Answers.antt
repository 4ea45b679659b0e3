use Rattle.coretable.specs.Held.{StandsFor}
use Rattle.std.proofs.Common.{refl}
use Rattle.flowdir.specs.Boundary.{charge_by}
use Rattle.coretable.proofs.SettleLemmas.{asks_again}
use Rattle.coretable.proofs.advancing.ask_again.Goals as goal

pub returns-clause-turn : goal.returns-clause-turn
returns-clause-turn g c t m h = (0, m, refl, asks_again (charge_by g.C.Charge.amount g.C.Charge.stamp) (StandsFor (charge_by g.C.Charge.amount g.C.Charge.stamp) t) t m c.args.desk.now c.args.active c.args.bytes c.args.mark h)
