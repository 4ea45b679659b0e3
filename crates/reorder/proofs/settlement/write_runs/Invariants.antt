use Rattle.std.proofs.Common.{◌≡◌, ◌+◌, ◌∷◌, ◌++◌, drop, take, length}
use Rattle.reorder.specs.Starts.{run_bytes, bytes_with}
use Rattle.reorder.proofs.settlement.write_runs.Given as goal

abbrev pub invariant-loop-run : goal.invariant-loop-run
invariant-loop-run g l =
    (l.part.1 ≡ l.fn.part.1)
    × (take l.place l.part.0 ++ bytes_with l.over l.bytes (l.at + l.place) (drop l.run-index l.more) (drop l.place l.part.0) ≡ bytes_with l.over l.bytes l.at (l.fn.first ∷ l.more) l.fn.part.0)
    × (l.place + run_bytes (drop l.run-index l.more) ≡ length l.part.0)
    × (length l.part.0 ≡ length l.fn.part.0)
