use Rattle.scapconf.proofs.LawLemmas.{one_meaning}
use Rattle.scapconf.proofs.laws.texts_have_one_meaning.Goals as goal

pub returns : goal.returns
returns c = one_meaning
