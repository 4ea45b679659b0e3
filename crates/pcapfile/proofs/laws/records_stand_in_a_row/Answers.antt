use Rattle.pcapfile.proofs.RecordLemmas.{records_stand}
use Rattle.pcapfile.proofs.laws.records_stand_in_a_row.Goals as goal

pub returns : goal.returns
returns c = records_stand
