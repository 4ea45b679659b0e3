use Rattle.pcapfile.proofs.OnlyLemmas.{no_others_do}
use Rattle.pcapfile.proofs.laws.no_other_records_do.Goals as goal

pub returns : goal.returns
returns c = no_others_do
