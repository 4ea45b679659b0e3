use Rattle.std.proofs.Common.{refl}
use Rattle.scapconf.specs.Numbers.{number}
use Rattle.scapconf.specs.Values.{time}
use Rattle.scapconf.proofs.rows.times_have_ranges.Goals as goal

pub returns-clause-flush_least : goal.returns-clause-flush_least
unfolding number time
returns-clause-flush_least c = refl

pub returns-clause-flush_scaled : goal.returns-clause-flush_scaled
unfolding number time
returns-clause-flush_scaled c = refl

pub returns-clause-flush_greatest : goal.returns-clause-flush_greatest
unfolding number time
returns-clause-flush_greatest c = refl

pub returns-clause-flush_above : goal.returns-clause-flush_above
unfolding number time
returns-clause-flush_above c = refl

pub returns-clause-hole_below : goal.returns-clause-hole_below
unfolding number time
returns-clause-hole_below c = refl

pub returns-clause-hole_least : goal.returns-clause-hole_least
unfolding number time
returns-clause-hole_least c = refl

pub returns-clause-hole_greatest : goal.returns-clause-hole_greatest
unfolding number time
returns-clause-hole_greatest c = refl

pub returns-clause-hole_above : goal.returns-clause-hole_above
unfolding number time
returns-clause-hole_above c = refl

pub returns-clause-idle_below : goal.returns-clause-idle_below
unfolding number time
returns-clause-idle_below c = refl

pub returns-clause-idle_least : goal.returns-clause-idle_least
unfolding number time
returns-clause-idle_least c = refl

pub returns-clause-idle_greatest : goal.returns-clause-idle_greatest
unfolding number time
returns-clause-idle_greatest c = refl

pub returns-clause-idle_above : goal.returns-clause-idle_above
unfolding number time
returns-clause-idle_above c = refl

pub returns-clause-ten_digits : goal.returns-clause-ten_digits
unfolding number time
returns-clause-ten_digits c = refl

pub returns-clause-eleven_digits : goal.returns-clause-eleven_digits
unfolding number time
returns-clause-eleven_digits c = refl
