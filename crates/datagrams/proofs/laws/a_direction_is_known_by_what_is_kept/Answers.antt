use Rattle.datagrams.proofs.DirectionSteps.{does_granted, does_refused, does_empty, does_end}
use Rattle.datagrams.proofs.laws.a_direction_is_known_by_what_is_kept.Goals as goal

pub returns-clause-granted : goal.returns-clause-granted
returns-clause-granted c = does_granted

pub returns-clause-refused : goal.returns-clause-refused
returns-clause-refused c = does_refused

pub returns-clause-empty : goal.returns-clause-empty
returns-clause-empty c = does_empty

pub returns-clause-end : goal.returns-clause-end
returns-clause-end c = does_end
