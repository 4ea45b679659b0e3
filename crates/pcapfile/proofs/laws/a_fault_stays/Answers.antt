use Rattle.pcapfile.proofs.RunLemmas.{fault_stays}
use Rattle.pcapfile.proofs.laws.a_fault_stays.Goals as goal

pub returns : goal.returns
returns c = fault_stays
