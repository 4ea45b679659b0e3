use Rattle.reorder.proofs.FreeRuns.{uncovered_is}
use Rattle.reorder.proofs.laws.uncovered_runs_are_maximal.Goals as goal

pub returns : goal.returns
returns g c = λ paid from start bytes. uncovered_is paid from start bytes c.args.store.now.frags c.parts_rise.ensures.ascends
