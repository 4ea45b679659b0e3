use Rattle.evring.specs.declared.way.Way.TheVariants.{Fore, Back}
use Rattle.convo.proofs.SumSteps.{total_is}
use Rattle.convo.proofs.talk.Convo.total.Goals as goal

pub returns-in-Fore : goal.returns-in-Fore
returns-in-Fore g c = λ t k r. rw (c.total_of.ensures, c.in-Fore.is) (total_is k.convo.first Fore c.args.self.now.origin.number r.quiet.plain.origin_is.number r.quiet.fore_sums)

pub returns-in-Back : goal.returns-in-Back
returns-in-Back g c = λ t k r. rw (c.total_of-in-Back.ensures, c.in-Back.is) (total_is k.convo.first Back c.args.self.now.origin.number r.quiet.plain.origin_is.number r.quiet.back_sums)
