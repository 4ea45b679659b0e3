use Rattle.convo.proofs.SegTurn.{asks_at, gives_at, done_at}
use Rattle.convo.proofs.Lefts.{segment_left}
use Rattle.convo.proofs.talk.Convo.go_segment.Goals as goal

pub returns-in-Ask-clause-turn : goal.returns-in-Ask-clause-turn
returns-in-Ask-clause-turn g c = λ t k p looks frees s m w r h.
    rw c.mark.ensures.mark (asks_at _ t k c.args.self.now c.args.set.now c.args.way c.args.reset p c.args.now looks frees c.in-Ask.bytes c.requires.stage s m w r (rw c.in-Ask.is at h))

pub returns-in-Free-clause-turn : goal.returns-in-Free-clause-turn
returns-in-Free-clause-turn g c = λ t k p looks frees s m w r h.
    gives_at _ t k c.args.self.now c.args.way c.args.reset p c.args.now looks frees c.in-Free.charge c.requires.stage m w r (rw c.in-Free.is at h)

pub returns-in-Done-clause-turn : goal.returns-in-Done-clause-turn
returns-in-Done-clause-turn g c = λ t k p looks frees s m w r h.
    done_at _ t k c.args.self.now c.count.new.self c.finish_segment.new.self c.hand_over.new.self c.args.set.now c.args.way c.args.reset p c.args.now looks frees c.in-Done.counts c.hand_over.result
    c.requires.stage s m w r (rw c.in-Done.is at h) c.count.ensures c.finish_segment.ensures.same c.finish_segment.ensures.owed (c.hand_over.ensures.turn t)

pub returns-in-Done-clause-left : goal.returns-in-Done-clause-left
returns-in-Done-clause-left g c =
    segment_left c.args.way c.args.now c.args.reset _ c.args.self.now c.count.new.self c.finish_segment.new.self c.hand_over.new.self c.hand_over.result c.requires.stage c.count.ensures c.finish_segment.ensures.same c.hand_over.ensures.left
