use Rattle.std.proofs.Common.{refl}
use Rattle.scapconf.specs.Numbers.{number}
use Rattle.scapconf.specs.Values.{size}
use Rattle.scapconf.proofs.rows.sizes_have_ranges.Goals as goal

pub returns-clause-chunk_below : goal.returns-clause-chunk_below
unfolding number size
returns-clause-chunk_below c = refl

pub returns-clause-chunk_least : goal.returns-clause-chunk_least
unfolding number size
returns-clause-chunk_least c = refl

pub returns-clause-chunk_greatest : goal.returns-clause-chunk_greatest
unfolding number size
returns-clause-chunk_greatest c = refl

pub returns-clause-chunk_above : goal.returns-clause-chunk_above
unfolding number size
returns-clause-chunk_above c = refl

pub returns-clause-overlap_least : goal.returns-clause-overlap_least
unfolding number size
returns-clause-overlap_least c = refl

pub returns-clause-overlap_greatest : goal.returns-clause-overlap_greatest
unfolding number size
returns-clause-overlap_greatest c = refl

pub returns-clause-overlap_above : goal.returns-clause-overlap_above
unfolding number size
returns-clause-overlap_above c = refl

pub returns-clause-reorder_least : goal.returns-clause-reorder_least
unfolding number size
returns-clause-reorder_least c = refl

pub returns-clause-reorder_greatest : goal.returns-clause-reorder_greatest
unfolding number size
returns-clause-reorder_greatest c = refl

pub returns-clause-reorder_above : goal.returns-clause-reorder_above
unfolding number size
returns-clause-reorder_above c = refl

pub returns-clause-ten_digits : goal.returns-clause-ten_digits
unfolding number size
returns-clause-ten_digits c = refl

pub returns-clause-eleven_digits : goal.returns-clause-eleven_digits
unfolding number size
returns-clause-eleven_digits c = refl

pub returns-clause-empty : goal.returns-clause-empty
unfolding number size
returns-clause-empty c = refl

pub returns-clause-sign : goal.returns-clause-sign
unfolding number size
returns-clause-sign c = refl
