use Rattle.std.proofs.Common.{◌≡◌, Some, ap}
use Rattle.std.specs.Prelude.{is_some}
use Rattle.prio_budget.specs.MarkParts.{MarkParts}
use Rattle.linewords.specs.Words.{words}
use Rattle.scapconf.specs.Faults.{budget_in}
use Rattle.scapconf.proofs.ReadLemmas.{budget_said}
use Rattle.scapconf.proofs.read.read_budget.Goals as goal

pub returns-in-Err : goal.returns-in-Err
returns-in-Err c =
    let m : MarkParts = record { limit = c.in-Some.limit; base = c.in-Some.base; count = c.in-Some.count } in
    let said : budget_in (words c.args.line.now) ≡ Some m = budget_said (words c.args.line.now) _ _ _ m c.word.ensures c.word-2.ensures c.word-3.ensures c.in-Some.ensures in
    (ap is_some said, (m, c.in-Err.field-0, said, c.in-Err.ensures.fault))
