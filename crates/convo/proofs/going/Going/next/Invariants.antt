use Rattle.std.proofs.Common.{◌≡◌, ◌-◌, length}
use Rattle.convo.specs.Going.{charges_going}
use Rattle.convo.proofs.going.Going.next.Given as goal

abbrev pub invariant-loop-self : goal.invariant-loop-self
invariant-loop-self g l = charges_going l.self ≡ charges_going l.initial.self

abbrev pub decreases-loop-self : goal.decreases-loop-self
decreases-loop-self g l = length l.self.chunks.items - l.self.at
