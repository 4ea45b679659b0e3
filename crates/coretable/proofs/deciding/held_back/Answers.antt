use Rattle.coretable.proofs.StandLemmas.{onto_nothing, resting_weighs_nothing}
use Rattle.coretable.proofs.deciding.held_back.Goals as goal

pub returns-in-Drains-clause-weight : goal.returns-in-Drains-clause-weight
returns-in-Drains-clause-weight g c w = onto_nothing _ _ _ (c.of_kept.ensures w) (resting_weighs_nothing w c.args.state c.requires.rests)
