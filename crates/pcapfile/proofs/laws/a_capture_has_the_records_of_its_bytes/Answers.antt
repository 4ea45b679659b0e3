use Rattle.pcapfile.proofs.FedLemmas.{capture_has_records}
use Rattle.pcapfile.proofs.laws.a_capture_has_the_records_of_its_bytes.Goals as goal

pub returns : goal.returns
returns c = capture_has_records
