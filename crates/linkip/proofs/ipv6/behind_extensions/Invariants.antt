use Rattle.std.proofs.Common.{◌≡◌, ◌≤◌, length}
use Rattle.linkip.specs.Ipv6.{upper_in}
use Rattle.linkip.proofs.ipv6.behind_extensions.Given as goal

abbrev pub invariant-loop-upper : goal.invariant-loop-upper
invariant-loop-upper l =
    (upper_in l.fn.first l.fn.payload ≡ upper_in l.upper.next l.upper.left.now) × (length l.upper.left.now ≤ length l.fn.payload)

abbrev pub decreases-loop-upper : goal.decreases-loop-upper
decreases-loop-upper l = length l.upper.left.now
