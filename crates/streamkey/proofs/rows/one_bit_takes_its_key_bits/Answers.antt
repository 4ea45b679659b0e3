use Rattle.std.proofs.Common.{refl}
use Rattle.streamkey.specs.Hash.{hash_from, window}
use Rattle.streamkey.proofs.rows.one_bit_takes_its_key_bits.Goals as goal

pub returns-clause-nothing : goal.returns-clause-nothing
unfolding hash_from window
returns-clause-nothing c = refl

pub returns-clause-first : goal.returns-clause-first
unfolding hash_from window
returns-clause-first c = refl

pub returns-clause-sixteenth : goal.returns-clause-sixteenth
unfolding hash_from window
returns-clause-sixteenth c = refl
