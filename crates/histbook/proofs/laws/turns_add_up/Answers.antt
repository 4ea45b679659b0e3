use Rattle.histbook.proofs.InTurnLemmas.{stamps_count, used_adds_up, none_before, all_behind, used_between}
use Rattle.histbook.proofs.laws.turns_add_up.Goals as goal

pub returns-clause-ends : goal.returns-clause-ends
returns-clause-ends c = λ limit steps s u s' u' turn. (stamps_count limit steps s u s' u' turn, used_adds_up limit steps s u s' u' turn)

pub returns-clause-below : goal.returns-clause-below
returns-clause-below c = λ limit steps s u s' u' turn weight n. (none_before limit weight n steps s u s' u' turn, all_behind limit weight n steps s u s' u' turn)

pub returns-clause-between : goal.returns-clause-between
returns-clause-between c = used_between
