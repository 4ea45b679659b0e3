use Rattle.std.proofs.Common.{suc, length, arith}
use Rattle.linkip.proofs.ChainLemmas.{upper_within-turns}
use Rattle.linkip.proofs.laws.any_turns_serve.Goals as goal

pub returns : goal.returns
returns c = λ turns next bytes room. upper_within-turns turns (suc (length bytes)) next bytes room (omega arith)
