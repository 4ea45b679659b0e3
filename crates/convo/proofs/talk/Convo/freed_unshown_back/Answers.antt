use Rattle.convo.proofs.EndFreed.{freed_leaves_back}
use Rattle.convo.proofs.talk.Convo.freed_unshown_back.Goals as goal

pub returns-clause-turn : goal.returns-clause-turn
returns-clause-turn g c = λ t k act emitted free charge s st wants.
    freed_leaves_back _ t c.args.self.now c.unshown_back.new.self k act emitted free c.args.at c.args.reason c.unshown_back.result st c.requires.stage (c.unshown_back.ensures.turn t k)
