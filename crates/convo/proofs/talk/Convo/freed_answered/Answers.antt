use Rattle.convo.proofs.CallStages.{freed_answer}
use Rattle.convo.proofs.talk.Convo.freed_answered.Goals as goal

pub returns-clause-turn : goal.returns-clause-turn
returns-clause-turn g c = λ t k act emitted free charge s st wants.
    freed_answer _ t c.args.self.now c.give_next.new.self k act emitted free c.give_next.result st c.requires.stage (c.give_next.ensures.turn t k)
