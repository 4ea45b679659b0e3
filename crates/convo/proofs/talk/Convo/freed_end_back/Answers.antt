use Rattle.convo.proofs.EndFreed.{freed_ends_back}
use Rattle.convo.proofs.talk.Convo.freed_end_back.Goals as goal

pub returns-clause-turn : goal.returns-clause-turn
returns-clause-turn g c = λ t k act emitted free charge s st wants.
    freed_ends_back _ t c.args.self.now c.freed_way.new.self c.go_end_back.new.self k act emitted free charge c.args.at c.args.reason c.in_ok-step.step c.go_end_back.result st c.requires.stage wants c.in_ok-step.ensures.same c.in_ok-step.ensures.kind
    (λ d deed given pieces. c.in_ok-step.ensures.step t d deed given pieces charge) (λ looks frees more. c.go_end_back.ensures.turn t k looks frees more)
