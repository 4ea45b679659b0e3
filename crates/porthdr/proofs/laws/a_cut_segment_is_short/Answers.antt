use Rattle.porthdr.proofs.ShortLaws.{segment_is_short}
use Rattle.porthdr.proofs.laws.a_cut_segment_is_short.Goals as goal

pub returns : goal.returns
returns c = λ source target declared header plain. segment_is_short source target declared header plain
