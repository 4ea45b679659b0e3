use Rattle.datagrams.proofs.ReplaySteps.{replayed_journal}
use Rattle.datagrams.proofs.laws.a_replay_is_lawful.Goals as goal

pub returns : goal.returns
returns c = replayed_journal
