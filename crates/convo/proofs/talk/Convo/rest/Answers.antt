use Rattle.std.proofs.Common.{refl, sym, ◌∙◌}
use Rattle.convo.proofs.talk.Convo.rest.Goals as goal

pub returns-clause-idle : goal.returns-clause-idle
returns-clause-idle g c = λ _. sym c.in_default.ensures.charges ∙ c.in_default.ensures.none refl
