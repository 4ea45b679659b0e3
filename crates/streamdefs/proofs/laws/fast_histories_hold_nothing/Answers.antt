use Rattle.streamdefs.proofs.WholeHistories.{all_bare}
use Rattle.streamdefs.proofs.laws.fast_histories_hold_nothing.Goals as goal

pub returns : goal.returns
returns c = all_bare
