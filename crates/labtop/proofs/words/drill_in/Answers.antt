use Rattle.std.proofs.Common.{arith}
use Rattle.labtop.proofs.WordsLemmas.{wrong_drill}
use Rattle.labtop.proofs.words.drill_in.Goals as goal

pub returns-in-len3-up : goal.returns-in-len3-up
returns-in-len3-up c = wrong_drill _ _ (λ e. omega arith)

pub returns-in-len1 : goal.returns-in-len1
returns-in-len1 c = wrong_drill _ _ (λ e. omega arith)
