use Rattle.datagrams.proofs.TalkSteps.{does_seg, does_finish}
use Rattle.datagrams.proofs.laws.a_conversation_is_known_by_what_is_kept.Goals as goal

pub returns-clause-datagram : goal.returns-clause-datagram
returns-clause-datagram c = does_seg

pub returns-clause-finish : goal.returns-clause-finish
returns-clause-finish c = does_finish
