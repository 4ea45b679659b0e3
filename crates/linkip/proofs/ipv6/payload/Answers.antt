use Rattle.std.proofs.Common.{◌∙◌}
use Rattle.std.proofs.lemmas.List.{take_rest}
use Rattle.linkip.proofs.ipv6.payload.Goals as goal

pub returns-clause-exact : goal.returns-clause-exact
returns-clause-exact c = c.front.ensures ∙ rw (take_rest, c.declared_size.ensures)
