use Rattle.scapconf.proofs.LawLemmas.{one_fault}
use Rattle.scapconf.proofs.laws.texts_have_one_fault.Goals as goal

pub returns : goal.returns
returns c = one_fault
