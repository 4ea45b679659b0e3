use Rattle.convo.proofs.TimeTold.{told_fore}
use Rattle.convo.proofs.Results.{if_ok_map}
use Rattle.convo.proofs.talk.Convo.told_time_fore.Goals as goal

pub returns-clause-turn : goal.returns-clause-turn
returns-clause-turn g c = if_ok_map c.go_time_fore.result c.go_time_fore.ensures.turn (λ out turn t k act emitted look request mark s st wants looked.
    told_fore _ t c.args.self.now c.told_way.new.self c.go_time_fore.new.self k act emitted look request mark c.args.at c.args.granted c.in_ok-step.step out st c.requires.stage wants looked c.in_ok-step.ensures.same c.in_ok-step.ensures.kind
    (λ d deed given pieces. c.in_ok-step.ensures.step t d deed given pieces look request s.shape) (λ looks frees. turn t k looks frees s))
