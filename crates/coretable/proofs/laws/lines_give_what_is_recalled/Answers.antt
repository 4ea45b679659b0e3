use Rattle.coretable.proofs.SummedLemmas.{talk_beside, talk_is}
use Rattle.coretable.proofs.laws.lines_give_what_is_recalled.Goals as goal

pub returns-clause-lines : goal.returns-clause-lines
returns-clause-lines c = talk_beside

pub returns-clause-history : goal.returns-clause-history
returns-clause-history c = talk_is
