use Rattle.mixrun.proofs.RoundLemmas.{rounds_are_in_turn, rounds_miss_none}
use Rattle.mixrun.proofs.schedules.rounds_are_in_turn.Goals as goal

pub returns-clause-first : goal.returns-clause-first
returns-clause-first c = rounds_are_in_turn

pub returns-clause-none : goal.returns-clause-none
returns-clause-none c = rounds_miss_none
