use Rattle.std.proofs.Common.{◌≡◌, ◌+◌, ◌∷◌, ◌++◌, drop}
use Rattle.reorder.specs.Starts.{run_bytes, runs_with}
use Rattle.reorder.proofs.settlement.settled_runs.Given as goal

abbrev pub invariant-loop-run : goal.invariant-loop-run
invariant-loop-run l =
    (l.made.items ++ runs_with l.over l.next (drop l.run-index l.more) ≡ runs_with l.over l.at (l.fn.first ∷ l.more))
    × (l.next + run_bytes (drop l.run-index l.more) ≡ l.at + run_bytes (l.fn.first ∷ l.more))
