use Rattle.datagrams.proofs.Replayed.{replayed_none}
use Rattle.datagrams.proofs.ReplaySteps.{replayed_seg, replayed_new, replayed_served, replayed_end}
use Rattle.datagrams.proofs.laws.entries_are_replayed.Goals as goal

pub returns-clause-begins : goal.returns-clause-begins
returns-clause-begins c = replayed_none

pub returns-clause-datagram : goal.returns-clause-datagram
returns-clause-datagram c = replayed_seg

pub returns-clause-first : goal.returns-clause-first
returns-clause-first c = replayed_new

pub returns-clause-answer : goal.returns-clause-answer
returns-clause-answer c = replayed_served

pub returns-clause-end : goal.returns-clause-end
returns-clause-end c = replayed_end
