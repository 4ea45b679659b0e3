use Rattle.std.proofs.Common.{refl}
use Rattle.coretable.specs.Course.Stop.{Fills}
use Rattle.coretable.proofs.PlanLemmas.{step_fills}
use Rattle.coretable.proofs.resting.fill.Goals as goal

pub returns-clause-turn : goal.returns-clause-turn
returns-clause-turn g c t m line e k h r = (0, m, refl, (Fills, step_fills t m line e h r, tt, (e, k)))
