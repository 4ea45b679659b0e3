use Rattle.std.proofs.Common.{◌∙◌}
use Rattle.flowdir.specs.Boundary.{charge_by}
use Rattle.coretable.proofs.LeftLemmas.{leaves_idle, leaves_over}
use Rattle.coretable.proofs.table.CoreTable.into_book.Goals as goal

pub returns-clause-idle : goal.returns-clause-idle
returns-clause-idle g c t last handler m stands e =
    leaves_idle (charge_by g.C.Charge.amount g.C.Charge.stamp) t last handler m c.args.self (record { entries = c.of-entries.result; totals = c.in_ok-totals.totals }) (c.of-entries.ensures ∙ c.book_of.ensures) (λ sound under keeps. c.in_ok-totals.ensures t last handler m sound under keeps) stands e

pub returns-clause-over : goal.returns-clause-over
returns-clause-over g c t last handler m stands over =
    leaves_over (charge_by g.C.Charge.amount g.C.Charge.stamp) t last handler m c.args.self (record { entries = c.of-entries.result; totals = c.in_ok-totals.totals }) (c.of-entries.ensures ∙ c.book_of.ensures) (λ sound under keeps. c.in_ok-totals.ensures t last handler m sound under keeps) stands over
