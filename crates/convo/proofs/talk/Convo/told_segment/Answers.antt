use Rattle.convo.proofs.SegTold.{told_at}
use Rattle.convo.proofs.talk.Convo.told_segment.Goals as goal

pub returns-clause-turn : goal.returns-clause-turn
returns-clause-turn g c = λ t k act emitted look request mark s st wants looked.
    told_at _ t c.args.self.now c.told_way.new.self c.go_segment.new.self k act emitted look request mark c.args.way c.args.now c.args.reset c.args.granted c.in_ok-step.step c.go_segment.result c.args.set.now
    st c.requires.stage wants looked c.in_ok-step.ensures.same c.in_ok-step.ensures.kind
    (λ d deed given pieces. c.in_ok-step.ensures.step t d deed given pieces look request s.shape) (λ p looks frees. c.go_segment.ensures.turn t k p looks frees s)
