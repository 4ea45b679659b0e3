use Rattle.convo.proofs.talk.Convo.emitted.Goals as goal

pub returns-in-Events-clause-turn : goal.returns-in-Events-clause-turn
returns-in-Events-clause-turn g c = λ t k act emitted event s st wants. c.emitted_event.ensures.turn t k act emitted event st wants
