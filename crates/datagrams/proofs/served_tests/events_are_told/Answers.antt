use Rattle.std.proofs.Common.{arith}
use Rattle.datagrams.proofs.FlowLemmas.{fresh_size}
use Rattle.datagrams.proofs.served_tests.events_are_told.Goals as goal

pub hand_over-requires-clause-held : goal.hand_over-requires-clause-held
hand_over-requires-clause-held g c =
    omega (arith, fresh_size c.put_datagram-2.new.chunk.fresh, c.fresh_len.ensures, c.used.ensures.used, c.from.ensures, c.if-fresh_len-from.false)
