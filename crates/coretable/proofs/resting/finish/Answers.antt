use Rattle.flowdir.specs.Boundary.{charge_by}
use Rattle.coretable.specs.Held.{StandsFor}
use Rattle.std.proofs.Common.{refl}
use Rattle.coretable.specs.Course.Stop.{Fills, Finishes}
use Rattle.std.specs.Prelude.{true, false}
use Rattle.coretable.proofs.PlanLemmas.{done_is, is_zero, not_zero}
use Rattle.coretable.proofs.resting.finish.Goals as goal

pub returns-then-count_unanswered-eq0-clause-turn : goal.returns-then-count_unanswered-eq0-clause-turn
returns-then-count_unanswered-eq0-clause-turn g c t m at e k o j f d l =
    (0, m, refl, (Finishes, done_is (StandsFor (charge_by g.C.Charge.amount g.C.Charge.stamp) t) t m c.args.desk.now at c.count_unanswered.result true e k o j f d l c.count_unanswered.ensures (is_zero c.count_unanswered.result c.if-count_unanswered-eq0.true), tt, (e, k)))

pub returns-else-count_unanswered-eq0-clause-turn : goal.returns-else-count_unanswered-eq0-clause-turn
returns-else-count_unanswered-eq0-clause-turn g c t m at e k o j f d l =
    (0, m, refl, (Fills, done_is (StandsFor (charge_by g.C.Charge.amount g.C.Charge.stamp) t) t m c.args.desk.now at c.count_unanswered.result false e k o j f d l c.count_unanswered.ensures (not_zero c.count_unanswered.result c.if-count_unanswered-eq0.false), tt, (e, k)))
