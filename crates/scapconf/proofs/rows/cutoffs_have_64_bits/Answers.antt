use Rattle.std.proofs.Common.{refl}
use Rattle.scapconf.specs.Numbers.{number}
use Rattle.scapconf.specs.Values.{cutoff, class_cut, class_priority}
use Rattle.scapconf.proofs.rows.cutoffs_have_64_bits.Goals as goal

pub returns-clause-least : goal.returns-clause-least
unfolding number cutoff class_cut class_priority
returns-clause-least c = refl

pub returns-clause-greatest : goal.returns-clause-greatest
unfolding number cutoff class_cut class_priority
returns-clause-greatest c = refl

pub returns-clause-above : goal.returns-clause-above
unfolding number cutoff class_cut class_priority
returns-clause-above c = refl

pub returns-clause-twenty_digits : goal.returns-clause-twenty_digits
unfolding number cutoff class_cut class_priority
returns-clause-twenty_digits c = refl

pub returns-clause-more_digits : goal.returns-clause-more_digits
unfolding number cutoff class_cut class_priority
returns-clause-more_digits c = refl

pub returns-clause-endless : goal.returns-clause-endless
unfolding number cutoff class_cut class_priority
returns-clause-endless c = refl

pub returns-clause-never_unset : goal.returns-clause-never_unset
unfolding number cutoff class_cut class_priority
returns-clause-never_unset c = refl

pub returns-clause-unset : goal.returns-clause-unset
unfolding number cutoff class_cut class_priority
returns-clause-unset c = refl

pub returns-clause-of_class : goal.returns-clause-of_class
unfolding number cutoff class_cut class_priority
returns-clause-of_class c = refl

pub returns-clause-least_priority : goal.returns-clause-least_priority
unfolding number cutoff class_cut class_priority
returns-clause-least_priority c = refl

pub returns-clause-greatest_priority : goal.returns-clause-greatest_priority
unfolding number cutoff class_cut class_priority
returns-clause-greatest_priority c = refl

pub returns-clause-no_priority : goal.returns-clause-no_priority
unfolding number cutoff class_cut class_priority
returns-clause-no_priority c = refl
