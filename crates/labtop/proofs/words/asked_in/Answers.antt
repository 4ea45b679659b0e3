use Rattle.std.proofs.Common.{arith}
use Rattle.labtop.proofs.WordsLemmas.{wrong_short}
use Rattle.labtop.proofs.words.asked_in.Goals as goal

pub returns-in_default : goal.returns-in_default
returns-in_default c = wrong_short _ (omega arith)
