use Rattle.std.proofs.Common.{ap, arith, ◌∷◌, []}
use Rattle.streamdefs.specs.Lists.{total}
use Rattle.datagrams.specs.Sound.{open_bytes}
use Rattle.datagrams.proofs.HeldCharges.{total_append}
use Rattle.datagrams.proofs.closing.release_open.Goals as goal

pub release_both-requires : goal.release_both-requires
release_both-requires c =
    omega (arith, c.requires, c.loop-conversation.invariant, ap (total open_bytes) c.in-Some.ensures.items, total_append open_bytes c.pop.new.self.items (c.in-Some.conversation ∷ []))

pub loop-conversation-preserved : goal.loop-conversation-preserved
loop-conversation-preserved c =
    omega (arith, c.release_both.ensures, c.loop-conversation.invariant, ap (total open_bytes) c.in-Some.ensures.items, total_append open_bytes c.pop.new.self.items (c.in-Some.conversation ∷ []))
