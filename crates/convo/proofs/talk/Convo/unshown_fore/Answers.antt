use Rattle.std.proofs.Common.{refl, sym, ◌∙◌, arith}
use Rattle.convo.proofs.EndSteps.{leaves_fore, between_left}
use Rattle.convo.proofs.Results.{if_ok_map}
use Rattle.convo.proofs.talk.Convo.unshown_fore.Goals as goal

pub returns-in-Some-clause-turn : goal.returns-in-Some-clause-turn
returns-in-Some-clause-turn g c = λ t k looks frees more s l few n.
    leaves_fore _ t k c.args.self.now c.next.new.self c.in-Some.charge c.args.at c.args.reason looks frees more c.requires.stage l c.in-Some.ensures.charges n

pub returns-clause-turn : goal.returns-clause-turn
returns-clause-turn g c = if_ok_map c.begin_end_back.result c.begin_end_back.ensures.turn (λ want turn t k looks frees more s l few n.
    let b = between_left _ t k c.args.self.now c.next.new.self c.args.at.at more l (c.in_default.ensures.none refl) (sym c.in_default.ensures.charges ∙ c.in_default.ensures.none refl) in
    let some = b.1 in
    turn t k looks frees s b.0 l.there (omega arith))
