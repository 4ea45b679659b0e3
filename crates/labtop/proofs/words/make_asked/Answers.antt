use Rattle.std.proofs.Common.{arith}
use Rattle.labtop.proofs.WordsLemmas.{wrong_make}
use Rattle.labtop.proofs.words.make_asked.Goals as goal

pub returns-in-len1 : goal.returns-in-len1
returns-in-len1 c = wrong_make _ (λ e. omega arith)

pub returns-in-len2 : goal.returns-in-len2
returns-in-len2 c = wrong_make _ (λ e. omega arith)

pub returns-in-len4-up : goal.returns-in-len4-up
returns-in-len4-up c = wrong_make _ (λ e. omega arith)
