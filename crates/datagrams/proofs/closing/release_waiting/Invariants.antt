use Rattle.std.proofs.Common.{◌≡◌, ◌+◌, length}
use Rattle.streamdefs.specs.Lists.{total}
use Rattle.datagrams.specs.Sound.{bytes_in}
use Rattle.datagrams.specs.State.{Untold}
use Rattle.datagrams.proofs.closing.release_waiting.Given as goal

abbrev pub invariant-loop-untold : goal.invariant-loop-untold
invariant-loop-untold l = l.budget.used + total (λ (u : Untold). bytes_in u.event) l.fn.waiting.items ≡ l.fn.budget.used + total (λ (u : Untold). bytes_in u.event) l.waiting.items

abbrev pub decreases-loop-untold : goal.decreases-loop-untold
decreases-loop-untold l = length l.waiting.items
