use Rattle.std.proofs.Common.{◌≡◌, ◌+◌, ◌-◌, drop, length}
use Rattle.std.specs.VecDeque.{deque_len}
use Rattle.reorder.specs.Starts.{AllSettled}
use Rattle.reorder.proofs.covered.settled_parts.Given as goal

abbrev pub invariant-covered : goal.invariant-covered
invariant-covered g l =
    AllSettled l.over (drop l.first l.parts.items) l.made.items
    × (l.place ≡ l.first + length l.made.items)

abbrev pub decreases-covered : goal.decreases-covered
decreases-covered g l = deque_len l.parts - l.place
