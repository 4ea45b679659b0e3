use Rattle.flowdir.proofs.Answering.{if_ok}
use Rattle.flowdir.proofs.EntrySteps.{told_run, told_copy}
use Rattle.flowdir.proofs.dir.Dir.hear.Goals as goal

pub returns-then-is_copying-clause-step : goal.returns-then-is_copying-clause-step
returns-then-is_copying-clause-step g c = λ paid t d deed given pieces look request shape p st q l.
    told_copy _ paid c.args.self.now c.answer_copy.new.self c.answer_copy.result t d deed given pieces look c.args.granted c.answer_copy.ensures.copying c.requires.granted p st l c.answer_copy.ensures.gives

pub returns-clause-step : goal.returns-clause-step
returns-clause-step g c =
    if_ok c.answer_run.result _ _ (λ step n paid t d deed given pieces look request shape p st q l.
    told_run paid c.args.self.now c.answer_run.new.self step c.args.shape.now.chunk c.args.shape.now.overlap c.args.shape.now.reorder t d deed given pieces look c.args.granted shape.chunk shape.overlap shape.reorder c.answer_run.ensures.running st l n) c.answer_run.ensures.asks
