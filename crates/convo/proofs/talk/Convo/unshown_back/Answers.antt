use Rattle.std.proofs.Common.{refl, sym, ◌∙◌}
use Rattle.convo.proofs.EndSteps.{leaves_back, ends_told}
use Rattle.convo.proofs.talk.Convo.unshown_back.Goals as goal

pub returns-in-Some-clause-turn : goal.returns-in-Some-clause-turn
returns-in-Some-clause-turn g c = λ t k looks frees more l n.
    leaves_back _ t k c.args.self.now c.next.new.self c.in-Some.charge c.args.at c.args.reason looks frees more c.requires.stage l c.in-Some.ensures.charges n

pub returns-clause-turn : goal.returns-clause-turn
returns-clause-turn g c = λ t k looks frees more l n.
    ends_told _ t k c.args.self.now c.hand_over.new.self c.next.new.self c.args.at.at c.args.reason looks frees more c.hand_over.result l (c.in_default.ensures.none refl) (sym c.in_default.ensures.charges ∙ c.in_default.ensures.none refl) n
    (rw c.finish_end.ensures at (c.hand_over.ensures.turn t))
