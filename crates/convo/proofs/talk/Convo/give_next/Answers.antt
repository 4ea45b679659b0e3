use Rattle.std.proofs.Common.{refl, sym, ◌∙◌}
use Rattle.convo.proofs.BackSteps.{answer_gives, answer_rests}
use Rattle.convo.proofs.talk.Convo.give_next.Goals as goal

pub returns-in-Some-clause-turn : goal.returns-in-Some-clause-turn
returns-in-Some-clause-turn g c = λ t k event advice frees spent none r l.
    answer_gives _ t k c.args.self.now c.next.new.self spent c.in-Some.charge event advice frees c.requires.stage none r l c.in-Some.ensures.charges

pub returns-clause-turn : goal.returns-clause-turn
returns-clause-turn g c = λ t k event advice frees spent none r l.
    answer_rests _ t k c.args.self.now c.next.new.self spent event advice frees (sym c.in_default.ensures.charges ∙ c.in_default.ensures.none refl) r l (c.in_default.ensures.none refl)
