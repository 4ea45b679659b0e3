use Rattle.convo.proofs.TurnSteps.{emitted_at}
use Rattle.convo.proofs.talk.Convo.emitted_event.Goals as goal

pub returns-clause-turn : goal.returns-clause-turn
returns-clause-turn g c = λ t k act emitted event st wants. emitted_at _ t c.args.self.now c.hand_over.new.self k act emitted event c.hand_over.result st wants (c.hand_over.ensures.turn t)
