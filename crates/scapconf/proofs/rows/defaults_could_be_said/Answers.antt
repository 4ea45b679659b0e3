use Rattle.std.proofs.Common.{refl}
use Rattle.scapconf.specs.Numbers.{number}
use Rattle.scapconf.specs.Values.{mode, policy, size, time, budget}
use Rattle.scapconf.proofs.rows.defaults_could_be_said.Goals as goal

pub returns-clause-mode : goal.returns-clause-mode
unfolding number mode policy size time budget
returns-clause-mode c = refl

pub returns-clause-policy : goal.returns-clause-policy
unfolding number mode policy size time budget
returns-clause-policy c = refl

pub returns-clause-chunk : goal.returns-clause-chunk
unfolding number mode policy size time budget
returns-clause-chunk c = refl

pub returns-clause-overlap : goal.returns-clause-overlap
unfolding number mode policy size time budget
returns-clause-overlap c = refl

pub returns-clause-flush : goal.returns-clause-flush
unfolding number mode policy size time budget
returns-clause-flush c = refl

pub returns-clause-hole : goal.returns-clause-hole
unfolding number mode policy size time budget
returns-clause-hole c = refl

pub returns-clause-reorder : goal.returns-clause-reorder
unfolding number mode policy size time budget
returns-clause-reorder c = refl

pub returns-clause-idle : goal.returns-clause-idle
unfolding number mode policy size time budget
returns-clause-idle c = refl

pub returns-clause-budget : goal.returns-clause-budget
unfolding number mode policy size time budget
returns-clause-budget c = refl

pub returns-clause-cutoffs : goal.returns-clause-cutoffs
unfolding number mode policy size time budget
returns-clause-cutoffs c = refl

pub returns-clause-filter : goal.returns-clause-filter
unfolding number mode policy size time budget
returns-clause-filter c = refl

pub returns-clause-rules : goal.returns-clause-rules
unfolding number mode policy size time budget
returns-clause-rules c = refl
