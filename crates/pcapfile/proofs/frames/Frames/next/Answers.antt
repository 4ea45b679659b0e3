use Rattle.pcapfile.proofs.FedLemmas.{is_next}
use Rattle.pcapfile.proofs.frames.Frames.next.Goals as goal

pub returns-clause-given : goal.returns-clause-given
returns-clause-given c = is_next _ c.in_ok-next.next _ c.in_ok-next.ensures.ok
