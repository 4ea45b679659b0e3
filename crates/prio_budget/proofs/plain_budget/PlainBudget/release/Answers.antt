use Rattle.std.proofs.Common.{refl}
use Rattle.prio_budget.proofs.OutLemmas.{without}
use Rattle.prio_budget.proofs.plain_budget.PlainBudget.release.Goals as goal

pub returns-clause-out : goal.returns-clause-out
returns-clause-out c left right =
    without c.args.self.now _ c.args.charge left right (rw (← c.self.view_is, ← c.charge.view_is) refl)
