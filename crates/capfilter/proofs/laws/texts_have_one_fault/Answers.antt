use Rattle.capfilter.proofs.LawLemmas.{one_fault}
use Rattle.capfilter.proofs.laws.texts_have_one_fault.Goals as goal

pub returns : goal.returns
returns c = one_fault
