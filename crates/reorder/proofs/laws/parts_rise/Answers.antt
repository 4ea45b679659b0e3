use Rattle.std.proofs.Common.{◌-◌}
use Rattle.std.specs.VecDeque.{deque_len, deque_capacity}
use Rattle.reorder.proofs.HeldParts.{shown}
use Rattle.reorder.proofs.laws.parts_rise.Goals as goal

pub returns-clause-ascends : goal.returns-clause-ascends
returns-clause-ascends g c =
    (shown (deque_capacity c.store.inside.parts - deque_len c.store.inside.parts) c.store.inside.held c.store.inside.parts.items c.args.store.now c.store.view_is c.store.invariant).ascends

pub returns-clause-ends : goal.returns-clause-ends
returns-clause-ends g c =
    (shown (deque_capacity c.store.inside.parts - deque_len c.store.inside.parts) c.store.inside.held c.store.inside.parts.items c.args.store.now c.store.view_is c.store.invariant).ends
