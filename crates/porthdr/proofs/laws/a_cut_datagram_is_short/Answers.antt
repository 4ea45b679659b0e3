use Rattle.porthdr.proofs.ShortLaws.{datagram_is_short}
use Rattle.porthdr.proofs.laws.a_cut_datagram_is_short.Goals as goal

pub returns : goal.returns
returns c = λ source target declared header rest sized. datagram_is_short source target declared header rest sized
