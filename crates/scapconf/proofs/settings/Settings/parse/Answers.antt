use Rattle.scapconf.proofs.LawLemmas.{gave_only, gave_least}
use Rattle.scapconf.proofs.settings.Settings.parse.Goals as goal

pub returns-clause-only : goal.returns-clause-only
returns-clause-only c = gave_only c.args.text.now c.read.result c.read.ensures.parsed c.read.ensures.refused

pub returns-clause-least : goal.returns-clause-least
returns-clause-least c = gave_least c.args.text.now c.read.result c.read.ensures.parsed c.read.ensures.refused
