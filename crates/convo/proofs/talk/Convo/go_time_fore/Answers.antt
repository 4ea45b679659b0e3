use Rattle.convo.proofs.TimeTurn.{fore_asks, fore_gives, fore_done}
use Rattle.convo.proofs.Results.{if_ok_map}
use Rattle.convo.proofs.talk.Convo.go_time_fore.Goals as goal

pub returns-in-Ask-clause-turn : goal.returns-in-Ask-clause-turn
returns-in-Ask-clause-turn g c = λ t k looks frees s m h a b.
    rw c.mark.ensures.mark (fore_asks _ t k c.args.self.now c.args.set.now c.args.at looks frees c.in-Ask.bytes s c.requires.stage m (rw c.in-Ask.is at h) a b)

pub returns-in-Free-clause-turn : goal.returns-in-Free-clause-turn
returns-in-Free-clause-turn g c = λ t k looks frees s m h a b.
    fore_gives _ t k c.args.self.now c.args.at looks frees c.in-Free.charge c.requires.stage m (rw c.in-Free.is at h) a b

pub returns-in-Done-clause-turn : goal.returns-in-Done-clause-turn
returns-in-Done-clause-turn g c = if_ok_map c.begin_time_back.result c.begin_time_back.ensures.turn (λ want turn t k looks frees s m h a b.
    let d = fore_done _ t k c.args.self.now c.args.at.at looks frees _ m (rw c.in-Done.is at h) a b in
    turn t k looks frees s d.0 m.there d.1)
