use Rattle.std.proofs.Common.{ap}
use Rattle.coretable.specs.Fits.{is_closing}
use Rattle.coretable.proofs.turning.turn_job.Goals as goal

pub returns-in-Nothing-clause-step : goal.returns-in-Nothing-clause-step
returns-in-Nothing-clause-step g c = c.rest.ensures.step c.args.set.now.marks.limit (ap is_closing c.in-Nothing.is)
