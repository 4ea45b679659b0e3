use Rattle.scapconf.proofs.OutcomeLemmas.{meaning_or_fault}
use Rattle.scapconf.proofs.laws.texts_are_read_or_refused.Goals as goal

pub returns : goal.returns
returns c = meaning_or_fault
