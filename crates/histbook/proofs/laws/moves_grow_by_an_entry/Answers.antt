use Rattle.histbook.proofs.MovesLemmas.{moves_grow, totals_grow}
use Rattle.histbook.proofs.laws.moves_grow_by_an_entry.Goals as goal

pub returns-clause-moves : goal.returns-clause-moves
returns-clause-moves c = moves_grow

pub returns-clause-sums : goal.returns-clause-sums
returns-clause-sums c = totals_grow
