use Rattle.capfilter.proofs.BitLemmas.{agrees_to, agrees_back}
use Rattle.capfilter.proofs.laws.nets_look_at_first_bits.Goals as goal

pub returns : goal.returns
returns c = λ n a b fa fb e. (agrees_to n a b fa fb e, agrees_back n a b fa fb e)
