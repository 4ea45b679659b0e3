use Rattle.std.proofs.Common.{refl, sym}
use Rattle.coretable.proofs.loading.grant.Goals as goal

pub returns-clause-turn : goal.returns-clause-turn
returns-clause-turn g c t m request mark at amount stamp = record { before = m; request = request; mark = mark; at = at; is = refl; answers = (refl, (λ i. record { bytes = sym amount i; stamp = sym stamp i })) }
