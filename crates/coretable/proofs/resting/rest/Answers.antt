use Rattle.std.proofs.Common.{refl}
use Rattle.coretable.specs.Course.Stop.{Rests}
use Rattle.coretable.proofs.PlanLemmas.{step_rests}
use Rattle.coretable.proofs.resting.rest.Goals as goal

pub returns-clause-turn : goal.returns-clause-turn
returns-clause-turn g c t m e k o j = (0, m, refl, (Rests, step_rests t m e o j, tt, (e, k)))
