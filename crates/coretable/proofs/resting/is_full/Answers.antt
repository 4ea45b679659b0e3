use Rattle.flowdir.specs.Boundary.{charge_by}
use Rattle.coretable.specs.Held.{StandsFor}
use Rattle.std.proofs.Common.{◌∙◌, ap}
use Rattle.std.specs.Prelude.{nat_le}
use Rattle.coretable.proofs.PlanLemmas.{full_is}
use Rattle.coretable.proofs.resting.is_full.Goals as goal

pub returns-clause-turn : goal.returns-clause-turn
returns-clause-turn g c t m e k l = ap (nat_le 256) c.count_unanswered.ensures ∙ full_is (StandsFor (charge_by g.C.Charge.amount g.C.Charge.stamp) t) t m c.args.desk.now e k l
