use Rattle.std.proofs.Common.{◌≡◌, ◌-◌, ◌++◌, drop, length}
use Rattle.evring.specs.Charges.{charges_of_all}
use Rattle.workrun.specs.Outgoing.{charges_left, charges_of_own}
use Rattle.workrun.proofs.outgoing.Outgoing.take.Given as goal

abbrev pub invariant-loop-self : goal.invariant-loop-self
invariant-loop-self g l =
    charges_of_all (drop l.self.at l.self.kept.items) ++ charges_of_own l.self.own ≡ charges_left l.fn.self

abbrev pub decreases-loop-self : goal.decreases-loop-self
decreases-loop-self g l = length l.self.kept.items - l.self.at
