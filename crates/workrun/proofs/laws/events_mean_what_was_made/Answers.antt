use Rattle.workrun.proofs.MeantLemmas.{charges_meant, conv_meant, seen_meant}
use Rattle.workrun.proofs.laws.events_mean_what_was_made.Goals as goal

pub returns-clause-conv : goal.returns-clause-conv
returns-clause-conv g c = λ paid first made m. conv_meant paid first made c.args.event.now m.event

pub returns-clause-seen : goal.returns-clause-seen
returns-clause-seen g c = λ paid first made m. seen_meant paid first made c.args.event.now m.way m.event

pub returns-clause-charges : goal.returns-clause-charges
returns-clause-charges g c = λ paid first made m. charges_meant paid first made c.args.event.now m.event
