use Rattle.pcapfile.proofs.RunLemmas.{record_stays}
use Rattle.pcapfile.proofs.laws.a_record_stays.Goals as goal

pub returns : goal.returns
returns c = record_stays
