use Rattle.std.proofs.Common.{ap, ◌∙◌}
use Rattle.flowdir.specs.Boundary.{charge_by}
use Rattle.coretable.specs.declared.state.State.TheVariants as M
use Rattle.coretable.proofs.TableLemmas.{released_stands}
use Rattle.coretable.proofs.deciding.released.Goals as goal

pub returns-in-Freeing-clause-stands : goal.returns-in-Freeing-clause-stands
returns-in-Freeing-clause-stands g c t last handler m sound at =
    released_stands (charge_by g.C.Charge.amount g.C.Charge.stamp) t last handler c.args.desk.now m c.args.state (M.Works c.give_back.result) c.in-Freeing.bytes c.in-Freeing.stamp c.args.free c.in-Freeing.active
    (c.in-Works.is ∙ ap M.Works c.in-Freeing.is) c.requires.released sound at (λ charge there. c.give_back.ensures.turn t m charge there)
