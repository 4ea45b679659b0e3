use Rattle.std.proofs.Common.{refl, sym, ◌∙◌, arith}
use Rattle.convo.proofs.EndSteps.{midway_going, leaves_at_fore}
use Rattle.convo.proofs.Results.{if_ok_map}
use Rattle.convo.proofs.talk.Convo.leave_fore.Goals as goal

pub returns-clause-turn : goal.returns-clause-turn
returns-clause-turn g c = if_ok_map c.unshown_fore.result c.unshown_fore.ensures.turn (λ want turn t k looks frees s m here n.
    let m1 = midway_going _ t c.args.self.now c.next.new.self k (sym c.in_default.ensures.charges ∙ c.in_default.ensures.none refl) m in
    turn t k looks frees 0 s (leaves_at_fore _ t k _ c.leave.new.self c.args.at c.args.reason m1 here c.leave.ensures.same c.leave.ensures.hands c.leave.ensures.own c.leave.ensures.kind c.leave.ensures.sums) (omega arith) (omega (arith, n)))
