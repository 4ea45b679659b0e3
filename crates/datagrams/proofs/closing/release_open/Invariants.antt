use Rattle.std.proofs.Common.{◌≡◌, ◌+◌, length}
use Rattle.streamdefs.specs.Lists.{total}
use Rattle.datagrams.specs.Sound.{open_bytes}
use Rattle.datagrams.proofs.closing.release_open.Given as goal

abbrev pub invariant-loop-conversation : goal.invariant-loop-conversation
invariant-loop-conversation l = l.budget.used + total open_bytes l.fn.list.items ≡ l.fn.budget.used + total open_bytes l.list.items

abbrev pub decreases-loop-conversation : goal.decreases-loop-conversation
decreases-loop-conversation l = length l.list.items
