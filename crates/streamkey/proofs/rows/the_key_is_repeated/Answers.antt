use Rattle.std.proofs.Common.{refl}
use Rattle.streamkey.specs.Hash.{hash_from, window}
use Rattle.streamkey.proofs.rows.the_key_is_repeated.Goals as goal

pub returns-clause-first : goal.returns-clause-first
unfolding hash_from window
returns-clause-first c = refl

pub returns-clause-second : goal.returns-clause-second
unfolding hash_from window
returns-clause-second c = refl

pub returns-clause-again : goal.returns-clause-again
unfolding hash_from window
returns-clause-again c = refl
