use Rattle.std.proofs.Common.{arith}
use Rattle.labtop.proofs.WordsLemmas.{wrong_match}
use Rattle.labtop.proofs.words.match_asked.Goals as goal

pub returns-in-len1 : goal.returns-in-len1
returns-in-len1 c = wrong_match _ (λ e. omega arith)

pub returns-in-len2 : goal.returns-in-len2
returns-in-len2 c = wrong_match _ (λ e. omega arith)

pub returns-in-len4-up : goal.returns-in-len4-up
returns-in-len4-up c = wrong_match _ (λ e. omega arith)
