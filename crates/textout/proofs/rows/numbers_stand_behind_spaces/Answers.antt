use Rattle.std.proofs.Common.{refl}
use Rattle.std.specs.Fmt.{digits}
use Rattle.textout.proofs.rows.numbers_stand_behind_spaces.Goals as goal

pub returns-clause-three : goal.returns-clause-three
unfolding digits
returns-clause-three c = refl
