use Rattle.std.proofs.Common.{refl}
use Rattle.scapconf.specs.Numbers.{number}
use Rattle.scapconf.specs.Values.{budget}
use Rattle.scapconf.proofs.rows.budgets_have_their_bits.Goals as goal

pub returns-clause-least : goal.returns-clause-least
unfolding number budget
returns-clause-least c = refl

pub returns-clause-greatest : goal.returns-clause-greatest
unfolding number budget
returns-clause-greatest c = refl

pub returns-clause-apart : goal.returns-clause-apart
unfolding number budget
returns-clause-apart c = refl

pub returns-clause-limit : goal.returns-clause-limit
unfolding number budget
returns-clause-limit c = refl

pub returns-clause-base : goal.returns-clause-base
unfolding number budget
returns-clause-base c = refl

pub returns-clause-count : goal.returns-clause-count
unfolding number budget
returns-clause-count c = refl
