use Rattle.convo.proofs.SegTold.{freed_at}
use Rattle.convo.proofs.talk.Convo.freed_segment.Goals as goal

pub returns-clause-turn : goal.returns-clause-turn
returns-clause-turn g c = λ t k act emitted free charge s st wants.
    freed_at _ t c.args.self.now c.freed_way.new.self c.go_segment.new.self k act emitted free charge c.args.way c.args.now c.args.reset c.in_ok-step.step c.go_segment.result
    st c.requires.stage wants c.in_ok-step.ensures.same c.in_ok-step.ensures.kind
    (λ d deed given pieces. c.in_ok-step.ensures.step t d deed given pieces charge) (λ p looks frees. c.go_segment.ensures.turn t k p looks frees s)
