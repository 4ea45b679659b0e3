use Rattle.reorder.proofs.HeldParts.{held_rest}
use Rattle.reorder.proofs.store.Store.take_front.Goals as goal

pub invariant_of-self-2 : goal.invariant_of-self-2
invariant_of-self-2 g c =
    held_rest c.self.inside.held c.len.result c.self.inside.parts.items c.in_ok-held.held c.pop_front.new.self.items c.in_ok-held.ensures.items c.len.ensures c.self.invariant
