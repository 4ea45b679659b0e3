use Rattle.std.proofs.Common.{arith}
use Rattle.datagrams.proofs.PlaceLemmas.{index_push}
use Rattle.datagrams.proofs.conversations.Conversations.open.Goals as goal

pub invariant_of-self-2 : goal.invariant_of-self-2
invariant_of-self-2 c = rw (c.push_reserved.ensures.items, c.reserve.ensures.items)
    (index_push c.self.inside.index c.insert.new.self c.self.inside.list.items c.args.conversation c.len.result c.self.invariant (rw c.self.view_is c.requires) (omega arith) c.in_ok-insert.ensures.updates)
