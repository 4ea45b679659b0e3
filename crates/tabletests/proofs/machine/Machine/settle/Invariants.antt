use Rattle.std.proofs.Common.{◌≡◌}
use Rattle.coretable.specs.Table.{limit, paused}
use Rattle.coretable.specs.declared.pause.Pause.TheVariants.{Still}
use Rattle.tabletests.proofs.machine.Machine.settle.Given as goal

abbrev pub invariant-moves : goal.invariant-moves
invariant-moves l = (paused l.self.table ≡ Still) × (l.self.budget.limit ≡ limit l.self.table)
