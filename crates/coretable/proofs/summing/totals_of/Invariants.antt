use Rattle.std.proofs.Common.{◌≡◌, None}
use Rattle.flowdir.specs.Boundary.{charge_by}
use Rattle.streamdefs.specs.Terms.{Terms}
use Rattle.streamdefs.specs.Lawful.{Handler}
use Rattle.std.specs.Prelude.{ℕ}
use Rattle.coretable.specs.Course.{Course}
use Rattle.coretable.specs.Held.{StandsFor}
use Rattle.coretable.specs.Lawfully.{IsSound}
use Rattle.coretable.specs.Standing.{Keeps}
use Rattle.coretable.proofs.SummedLemmas.{totals_front}
use Rattle.coretable.proofs.summing.totals_of.Given as goal

abbrev pub invariant-loop-place : goal.invariant-loop-place
invariant-loop-place g l = (t : Terms) (last : ℕ) (handler : Handler) (m : Course) → IsSound t last handler m → m.under ≡ None → Keeps (StandsFor (charge_by g.C.Charge.amount g.C.Charge.stamp) t) t m l.fn.desk → l.totals.items ≡ totals_front t m.lines l.place
