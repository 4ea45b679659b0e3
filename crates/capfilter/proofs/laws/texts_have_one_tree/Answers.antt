use Rattle.capfilter.proofs.LawLemmas.{one_tree}
use Rattle.capfilter.proofs.laws.texts_have_one_tree.Goals as goal

pub returns : goal.returns
returns c = one_tree
