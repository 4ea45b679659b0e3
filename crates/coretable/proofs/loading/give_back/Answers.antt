use Rattle.std.proofs.Common.{refl}
use Rattle.coretable.proofs.loading.give_back.Goals as goal

pub returns-clause-turn : goal.returns-clause-turn
returns-clause-turn g c t m charge at = record { before = m; charge = charge; at = at; is = refl }
