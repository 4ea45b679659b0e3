use Rattle.std.proofs.Common.{◌≡◌}
use Rattle.convotests.proofs.player.give_all.Given as goal

abbrev pub invariant-chunks : goal.invariant-chunks
invariant-chunks l = l.budget.limit ≡ l.fn.budget.limit
