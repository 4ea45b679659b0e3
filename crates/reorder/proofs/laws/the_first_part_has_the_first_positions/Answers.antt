use Rattle.std.proofs.Common.{ap}
use Rattle.reorder.specs.Frags.{spread}
use Rattle.reorder.proofs.Spread.{begins_on}
use Rattle.reorder.proofs.laws.the_first_part_has_the_first_positions.Goals as goal

pub returns-clause-rest : goal.returns-clause-rest
returns-clause-rest g c = λ paid f rest e. ap (spread paid) e

pub returns-clause-least : goal.returns-clause-least
returns-clause-least g c = λ paid at b. begins_on paid at c.args.store.now.frags c.parts_rise.ensures.ascends b
