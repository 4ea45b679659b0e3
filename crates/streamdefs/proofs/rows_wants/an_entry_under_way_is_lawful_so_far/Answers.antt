use Rattle.std.proofs.Common.{refl}
use Rattle.streamdefs.proofs.UnderWay.{so_far, history_so_far}
use Rattle.streamdefs.proofs.rows_wants.an_entry_under_way_is_lawful_so_far.Goals as goal

pub returns-clause-book : goal.returns-clause-book
returns-clause-book c = so_far

pub returns-clause-history : goal.returns-clause-history
returns-clause-history c = history_so_far

pub returns-clause-next : goal.returns-clause-next
returns-clause-next c = refl
