use Rattle.pcapfile.proofs.RecordLemmas.{capture_accounts}
use Rattle.pcapfile.proofs.laws.each_byte_is_accounted_for.Goals as goal

pub returns : goal.returns
returns c = capture_accounts
