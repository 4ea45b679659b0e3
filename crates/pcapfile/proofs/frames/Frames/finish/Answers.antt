use Rattle.pcapfile.proofs.FedLemmas.{is_finished}
use Rattle.pcapfile.proofs.frames.Frames.finish.Goals as goal

pub returns-clause-finished : goal.returns-clause-finished
returns-clause-finished c = is_finished _ _ c.tail.ensures
