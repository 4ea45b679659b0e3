use Rattle.tally.proofs.DirLemmas.{lines_are, one_list, run_is_in_order, sums_are}
use Rattle.tally.proofs.laws.all_totals_are_in_order.Goals as goal

pub returns-clause-one : goal.returns-clause-one
returns-clause-one c = one_list

pub returns-clause-sums : goal.returns-clause-sums
returns-clause-sums c = sums_are

pub returns-clause-run : goal.returns-clause-run
returns-clause-run c = run_is_in_order

pub returns-clause-lines : goal.returns-clause-lines
returns-clause-lines c = lines_are
