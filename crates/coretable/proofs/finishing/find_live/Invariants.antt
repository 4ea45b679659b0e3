use Rattle.flowdir.specs.Boundary.{charge_by}
use Rattle.coretable.specs.Held.{StandsFor}
use Rattle.std.proofs.Common.{◌≡◌, None}
use Rattle.streamdefs.specs.Terms.{Terms}
use Rattle.coretable.specs.Course.{Course, core_of}
use Rattle.coretable.specs.Standing.{AreEnded, Keeps}
use Rattle.coretable.proofs.finishing.find_live.Given as goal

abbrev pub invariant-loop-place : goal.invariant-loop-place
invariant-loop-place g l = (t : Terms) (m : Course) → m.under ≡ None → Keeps (StandsFor (charge_by g.C.Charge.amount g.C.Charge.stamp) t) t m l.fn.desk → AreEnded l.place (core_of t m).convos
