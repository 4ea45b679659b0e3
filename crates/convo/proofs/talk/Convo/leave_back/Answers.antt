use Rattle.std.proofs.Common.{refl, sym, ◌∙◌, arith}
use Rattle.convo.proofs.EndSteps.{between_going, leaves_at_back}
use Rattle.convo.proofs.talk.Convo.leave_back.Goals as goal

pub returns-clause-turn : goal.returns-clause-turn
returns-clause-turn g c = λ t k looks frees b here n.
    let b1 = between_going _ t c.args.self.now c.next.new.self k c.args.at.at (sym c.in_default.ensures.charges ∙ c.in_default.ensures.none refl) b in
    c.unshown_back.ensures.turn t k looks frees 0
    (leaves_at_back _ t k _ c.leave.new.self c.args.at c.args.reason b1 here c.leave.ensures.same c.leave.ensures.hands c.leave.ensures.own c.leave.ensures.kind c.leave.ensures.sums) (omega (arith, n))
