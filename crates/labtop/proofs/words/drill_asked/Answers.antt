use Rattle.std.proofs.Common.{arith}
use Rattle.labtop.proofs.WordsLemmas.{wrong_few}
use Rattle.labtop.proofs.words.drill_asked.Goals as goal

pub returns-in_default : goal.returns-in_default
returns-in_default c = wrong_few c.args.words.now (omega arith)
