use Rattle.std.proofs.Common.{arith}
use Rattle.histbook.proofs.BudgetLemmas.{all_back}
use Rattle.histbook.proofs.laws.used_stays_within.Goals as goal

pub returns-clause-within : goal.returns-clause-within
returns-clause-within c = λ limit first moves looks history stamp used is. omega (arith, is, history.within stamp)

pub returns-clause-back : goal.returns-clause-back
returns-clause-back c = all_back
