use Rattle.convo.specs.Talk.{new_talk}
use Rattle.convo.proofs.Histories.{convo_behind, counts_are, gaps_are}
use Rattle.convo.proofs.laws.sums_are_those_of_the_history.Goals as goal

pub returns-clause-convo : goal.returns-clause-convo
returns-clause-convo c = λ t first acts. convo_behind t (new_talk first) acts

pub returns-clause-counts : goal.returns-clause-counts
returns-clause-counts c = λ t first way acts. counts_are t first way acts

pub returns-clause-gaps : goal.returns-clause-gaps
returns-clause-gaps c = λ t first way acts. gaps_are t first way acts
