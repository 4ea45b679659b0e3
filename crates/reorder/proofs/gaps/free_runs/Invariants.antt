use Rattle.std.proofs.Common.{◌≡◌, ◌++◌, map, ◌-◌, ◌≤◌, drop}
use Rattle.std.specs.VecDeque.{deque_len}
use Rattle.reorder.specs.Frags.{range_for, free}
use Rattle.reorder.proofs.gaps.free_runs.Given as goal

abbrev pub invariant-loop-held : goal.invariant-loop-held
invariant-loop-held g l =
    (map range_for l.runs.items ++ free l.next l.to (drop l.place l.parts.items) ≡ free l.from l.to l.parts.items) × (l.from ≤ l.next)

abbrev pub decreases-loop-held : goal.decreases-loop-held
decreases-loop-held g l = deque_len l.parts - l.place
