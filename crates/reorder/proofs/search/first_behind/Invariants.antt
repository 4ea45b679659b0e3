use Rattle.std.proofs.Common.{◌-◌, ◌≤◌, take, drop}
use Rattle.std.specs.VecDeque.{deque_len}
use Rattle.reorder.specs.Frags.{EndBy}
use Rattle.reorder.specs.Search.{EndsBehind}
use Rattle.reorder.proofs.search.first_behind.Given as goal

abbrev pub invariant-halves : goal.invariant-halves
invariant-halves g l =
    (l.low ≤ l.high) × (l.high ≤ deque_len l.parts) × EndBy l.position (take l.low l.parts.items) × EndsBehind l.position (drop l.high l.parts.items)

abbrev pub decreases-halves : goal.decreases-halves
decreases-halves g l = l.high - l.low
