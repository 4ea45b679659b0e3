use Rattle.std.proofs.Common.{ap}
use Rattle.flowdir.specs.Boundary.{charge_by}
use Rattle.coretable.specs.declared.state.State.TheVariants as M
use Rattle.coretable.specs.Table.{granted_weight}
use Rattle.coretable.proofs.StandLemmas.{with_nothing}
use Rattle.coretable.proofs.TableLemmas.{granted_stands, refused_stands}
use Rattle.coretable.proofs.deciding.answer_ask.Goals as goal

pub returns-in-Granted-clause-stands : goal.returns-in-Granted-clause-stands
returns-in-Granted-clause-stands g c t last handler m unspent sound at =
    granted_stands (charge_by g.C.Charge.amount g.C.Charge.stamp) t last handler c.args.desk.now m (M.Works c.grant.result) c.args.bytes c.args.mark c.in-Granted.charge c.in-Granted.look c.args.active c.args.answered c.in-Granted.is
    c.requires.awaited sound at (λ request there bytes stamp. c.grant.ensures.turn t m request c.args.mark there bytes stamp)

pub returns-in-Past-clause-stands : goal.returns-in-Past-clause-stands
returns-in-Past-clause-stands g c t last handler m unspent sound at =
    refused_stands (charge_by g.C.Charge.amount g.C.Charge.stamp) t last handler c.args.desk.now m (M.Works c.refuse.result) c.args.bytes c.args.mark c.in-Past.look c.args.active c.args.answered c.in-Past.is
    c.requires.awaited sound at (λ request there. c.refuse.ensures.turn t m request c.args.mark there)

pub returns-in-Spent-clause-weight : goal.returns-in-Spent-clause-weight
returns-in-Spent-clause-weight g c w = with_nothing _ _ _ (c.of.ensures.weight w) (ap (granted_weight w) c.in-Spent.is)
