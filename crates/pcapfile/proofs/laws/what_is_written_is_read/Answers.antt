use Rattle.pcapfile.proofs.WrittenLemmas.{is_read_back}
use Rattle.pcapfile.proofs.laws.what_is_written_is_read.Goals as goal

pub returns : goal.returns
returns c = is_read_back
