use Rattle.std.proofs.Common.{refl}
use Rattle.coretable.proofs.loading.refuse.Goals as goal

pub returns-clause-turn : goal.returns-clause-turn
returns-clause-turn g c t m request mark at = record { before = m; request = request; mark = mark; at = at; is = refl; answers = refl }
