use Rattle.histbook.proofs.RunsLemmas.{short_lists}
use Rattle.histbook.proofs.TextLemmas.{kept_are_runs}
use Rattle.histbook.proofs.laws.kept_pairs_are_the_runs.Goals as goal

pub returns-clause-kept : goal.returns-clause-kept
returns-clause-kept c = kept_are_runs

pub returns-clause-short : goal.returns-clause-short
returns-clause-short c = short_lists
