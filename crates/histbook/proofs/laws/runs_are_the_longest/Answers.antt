use Rattle.histbook.proofs.RunsLemmas.{runs_stand_for, runs_are_longest, longest_are_runs}
use Rattle.histbook.proofs.laws.runs_are_the_longest.Goals as goal

pub returns-clause-longest : goal.returns-clause-longest
returns-clause-longest c = λ list. (runs_stand_for list, runs_are_longest list)

pub returns-clause-only : goal.returns-clause-only
returns-clause-only c = longest_are_runs
