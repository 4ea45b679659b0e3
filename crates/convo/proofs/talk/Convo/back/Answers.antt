use Rattle.std.proofs.Common.{◌≡◌, ◌∙◌, ap, is_none, false}
use Rattle.streamdefs.specs.Convo.{is_live}
use Rattle.flowdir.specs.Boundary.{charge_by}
use Rattle.convo.proofs.BackSteps.{back_going, dead_rests, given_dead, live_is}
use Rattle.convo.proofs.talk.Convo.back.Goals as goal

pub returns-in-Some-clause-turn : goal.returns-in-Some-clause-turn
returns-in-Some-clause-turn g c = λ t k e n frees r a.
    let paid = charge_by g.C.Charge.amount g.C.Charge.stamp in
    let dead : is_live k.convo ≡ false = live_is paid t k c.args.self.now r ∙ ap is_none c.in-Some.is in
    c.give.ensures.turn t k n c.args.advice frees (dead_rests paid t k c.args.self.now n c.args.advice frees dead r)
    (back_going paid k.convo c.args.advice frees c.args.kept e a.next (given_dead k.convo c.args.advice e dead) a.given a.returned)
