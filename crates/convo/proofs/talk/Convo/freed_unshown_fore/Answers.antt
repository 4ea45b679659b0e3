use Rattle.convo.proofs.EndFreed.{freed_leaves_fore}
use Rattle.convo.proofs.Results.{if_ok_map}
use Rattle.convo.proofs.talk.Convo.freed_unshown_fore.Goals as goal

pub returns-clause-turn : goal.returns-clause-turn
returns-clause-turn g c = if_ok_map c.unshown_fore.result c.unshown_fore.ensures.turn (λ out turn t k act emitted free charge s st wants.
    freed_leaves_fore _ t c.args.self.now c.unshown_fore.new.self k act emitted free c.args.at c.args.reason out st c.requires.stage (λ looks frees more. turn t k looks frees more s))
