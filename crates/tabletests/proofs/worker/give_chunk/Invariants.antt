use Rattle.std.proofs.Common.{◌≡◌}
use Rattle.tabletests.proofs.worker.give_chunk.Given as goal

abbrev pub invariant-parts : goal.invariant-parts
invariant-parts l = l.budget.limit ≡ l.fn.budget.limit
