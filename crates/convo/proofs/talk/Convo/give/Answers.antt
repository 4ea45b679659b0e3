use Rattle.std.proofs.Common.{◌∙◌, ap, map}
use Rattle.flowdir.specs.Boundary.{charge_by}
use Rattle.convo.proofs.talk.Convo.give.Goals as goal

pub returns-clause-turn : goal.returns-clause-turn
returns-clause-turn g c = λ t k event advice frees r l.
    c.give_next.ensures.turn t k event advice frees c.args.self.now.going c.requires.idle r (ap (map (charge_by g.C.Charge.amount g.C.Charge.stamp)) c.of.ensures.charges ∙ l)
