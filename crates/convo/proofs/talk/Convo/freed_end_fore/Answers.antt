use Rattle.convo.proofs.EndFreed.{freed_ends_fore}
use Rattle.convo.proofs.Results.{if_ok_map}
use Rattle.convo.proofs.talk.Convo.freed_end_fore.Goals as goal

pub returns-clause-turn : goal.returns-clause-turn
returns-clause-turn g c = if_ok_map c.go_end_fore.result c.go_end_fore.ensures.turn (λ out turn t k act emitted free charge s st wants.
    freed_ends_fore _ t c.args.self.now c.freed_way.new.self c.go_end_fore.new.self k act emitted free charge c.args.at c.args.reason c.in_ok-step.step out st c.requires.stage wants c.in_ok-step.ensures.same c.in_ok-step.ensures.kind
    (λ d deed given pieces. c.in_ok-step.ensures.step t d deed given pieces charge) (λ looks frees. turn t k looks frees s))
