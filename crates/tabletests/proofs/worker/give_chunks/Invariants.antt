use Rattle.std.proofs.Common.{◌≡◌}
use Rattle.tabletests.proofs.worker.give_chunks.Given as goal

abbrev pub invariant-chunks : goal.invariant-chunks
invariant-chunks l = l.budget.limit ≡ l.fn.budget.limit
