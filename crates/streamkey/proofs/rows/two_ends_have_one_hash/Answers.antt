use Rattle.std.proofs.Common.{refl}
use Rattle.streamkey.specs.Hash.{hash_from, window}
use Rattle.streamkey.proofs.rows.two_ends_have_one_hash.Goals as goal

pub returns-clause-one : goal.returns-clause-one
unfolding hash_from window
returns-clause-one c = refl

pub returns-clause-other : goal.returns-clause-other
unfolding hash_from window
returns-clause-other c = refl

pub returns-clause-four : goal.returns-clause-four
unfolding hash_from window
returns-clause-four c = refl

pub returns-clause-two : goal.returns-clause-two
unfolding hash_from window
returns-clause-two c = refl
