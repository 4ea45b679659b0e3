use Rattle.convo.proofs.TimeTold.{freed_back}
use Rattle.convo.proofs.talk.Convo.freed_time_back.Goals as goal

pub returns-clause-turn : goal.returns-clause-turn
returns-clause-turn g c = λ t k act emitted free charge s st wants.
    freed_back _ t c.args.self.now c.freed_way.new.self c.go_time_back.new.self k act emitted free charge c.args.at c.in_ok-step.step c.go_time_back.result st c.requires.stage wants c.in_ok-step.ensures.same c.in_ok-step.ensures.kind
    (λ d deed given pieces. c.in_ok-step.ensures.step t d deed given pieces charge) (λ first more frees back. c.go_time_back.ensures.turn t k first more frees back s)
