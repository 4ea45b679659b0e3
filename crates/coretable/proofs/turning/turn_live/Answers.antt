use Rattle.coretable.proofs.turning.turn_live.Goals as goal

pub returns-in-Ok-None-clause-step : goal.returns-in-Ok-None-clause-step
returns-in-Ok-None-clause-step g c closing = c.finish.ensures.step c.args.set.now.marks.limit closing
