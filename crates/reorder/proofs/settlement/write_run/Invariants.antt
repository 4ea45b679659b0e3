use Rattle.std.proofs.Common.{◌≡◌, ◌+◌, ◌-◌, drop, length}
use Rattle.reorder.specs.Starts.{first_taken, written}
use Rattle.reorder.proofs.settlement.write_run.Given as goal

abbrev pub invariant-loop-i : goal.invariant-loop-i
invariant-loop-i g l =
    (l.part.1 ≡ l.fn.part.1)
    × (length l.part.0 ≡ length l.fn.part.0)
    × (l.part.0 ≡ written l.fn.part.0 (l.place + first_taken l.over l.at l.fn.run) (drop (l.at + first_taken l.over l.at l.fn.run - l.over.from) l.bytes) (l.i - first_taken l.over l.at l.fn.run))
