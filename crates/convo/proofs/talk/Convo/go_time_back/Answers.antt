use Rattle.convo.proofs.TimeTurn.{back_asks, back_gives, time_done}
use Rattle.convo.proofs.talk.Convo.go_time_back.Goals as goal

pub returns-in-Ask-clause-turn : goal.returns-in-Ask-clause-turn
returns-in-Ask-clause-turn g c = λ t k first more frees back s d h n.
    rw c.mark.ensures.mark (back_asks _ t k c.args.self.now c.args.set.now c.args.at first more frees back c.in-Ask.bytes s c.requires.stage d n (rw c.in-Ask.is at h))

pub returns-in-Free-clause-turn : goal.returns-in-Free-clause-turn
returns-in-Free-clause-turn g c = λ t k first more frees back s d h n.
    back_gives _ t k c.args.self.now c.args.at first more frees back c.in-Free.charge c.requires.stage d n (rw c.in-Free.is at h)

pub returns-in-Done-clause-turn : goal.returns-in-Done-clause-turn
returns-in-Done-clause-turn g c = λ t k first more frees back s d h n.
    time_done _ t k c.args.self.now c.finish_time.new.self c.hand_over.new.self c.args.set.now c.args.at.at first more frees back _ c.hand_over.result s d n (rw c.in-Done.is at h)
    c.finish_time.ensures.same c.finish_time.ensures.owed (c.hand_over.ensures.turn t)
