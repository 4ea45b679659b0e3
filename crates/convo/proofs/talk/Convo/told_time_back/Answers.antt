use Rattle.convo.proofs.TimeTold.{told_back}
use Rattle.convo.proofs.talk.Convo.told_time_back.Goals as goal

pub returns-clause-turn : goal.returns-clause-turn
returns-clause-turn g c = λ t k act emitted look request mark s st wants looked.
    told_back _ t c.args.self.now c.told_way.new.self c.go_time_back.new.self k act emitted look request mark c.args.at c.args.granted c.in_ok-step.step c.go_time_back.result st c.requires.stage wants looked c.in_ok-step.ensures.same c.in_ok-step.ensures.kind
    (λ d deed given pieces. c.in_ok-step.ensures.step t d deed given pieces look request s.shape) (λ first more frees back. c.go_time_back.ensures.turn t k first more frees back s)
