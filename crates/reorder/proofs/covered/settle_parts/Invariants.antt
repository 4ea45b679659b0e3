use Rattle.std.proofs.Common.{◌≡◌, ◌+◌, drop, length}
use Rattle.std.specs.VecDeque.{deque_len, deque_capacity}
use Rattle.reorder.specs.Starts.{AllSettled}
use Rattle.reorder.proofs.Places.{front_overlaid}
use Rattle.reorder.proofs.covered.settle_parts.Given as goal

abbrev pub invariant-covered : goal.invariant-covered
invariant-covered g l =
    (l.parts.items ≡ front_overlaid l.over.policy l.over.start l.over.from l.bytes l.place l.fn.parts.items)
    × AllSettled l.over (drop l.place l.fn.parts.items) l.made.items
    × (l.place + length l.made.items ≡ l.first + length l.fn.made.items)
    × (deque_len l.parts ≡ deque_len l.fn.parts)
    × (deque_capacity l.parts ≡ deque_capacity l.fn.parts)

abbrev pub decreases-covered : goal.decreases-covered
decreases-covered g l = length l.made.items
