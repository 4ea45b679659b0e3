use Rattle.pcapfile.proofs.RecordLemmas.{records_from-turns}
use Rattle.pcapfile.proofs.laws.any_turns_serve.Goals as goal

pub returns : goal.returns
returns c = λ head limits at count rest turns others. records_from-turns head limits turns others at count rest
