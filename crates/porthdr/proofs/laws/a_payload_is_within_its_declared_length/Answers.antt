use Rattle.porthdr.proofs.KindLemmas.{transport-within}
use Rattle.porthdr.proofs.laws.a_payload_is_within_its_declared_length.Goals as goal

pub returns : goal.returns
returns c = λ carried h. transport-within carried h
