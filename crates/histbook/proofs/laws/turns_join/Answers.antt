use Rattle.histbook.proofs.InTurnLemmas.{in_turn_append, in_turn_parts, book_steps_grow}
use Rattle.histbook.proofs.laws.turns_join.Goals as goal

pub returns-clause-join : goal.returns-clause-join
returns-clause-join c = in_turn_append

pub returns-clause-part : goal.returns-clause-part
returns-clause-part c = in_turn_parts

pub returns-clause-grow : goal.returns-clause-grow
returns-clause-grow c = book_steps_grow
