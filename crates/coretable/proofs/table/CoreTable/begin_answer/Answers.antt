use Rattle.std.proofs.Common.{ap}
use Rattle.coretable.specs.Table.{weight_by}
use Rattle.coretable.specs.Weighed.{weight_of_begun}
use Rattle.coretable.proofs.StandLemmas.{begun_weighs, resting_weighs_nothing}
use Rattle.coretable.proofs.table.CoreTable.begin_answer.Goals as goal

pub returns-in-Ok-clause-weight : goal.returns-in-Ok-clause-weight
returns-in-Ok-clause-weight g c w =
    begun_weighs _ _ _ _ _ _ _ (c.begin_back.ensures.weight w) (ap (weight_of_begun w) c.in-Ok.is) (ap (weight_by w) c.put_state.ensures) (resting_weighs_nothing w c.args.self.now.state c.requires.rests)

pub returns-in-Err-clause-weight : goal.returns-in-Err-clause-weight
returns-in-Err-clause-weight g c w =
    begun_weighs _ _ _ _ _ _ _ (c.begin_back.ensures.weight w) (ap (weight_of_begun w) c.in-Err.is) (ap (weight_by w) c.put_state-in-Err.ensures) (resting_weighs_nothing w c.args.self.now.state c.requires.rests)
