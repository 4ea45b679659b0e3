use Rattle.std.proofs.Common.{arith}
use Rattle.convo.proofs.EndSteps.{gives_back}
use Rattle.convo.proofs.GivesSteps.{gives_past}
use Rattle.convo.proofs.talk.Convo.go_end_back.Goals as goal

pub returns-in-Free-clause-turn : goal.returns-in-Free-clause-turn
returns-in-Free-clause-turn g c = λ t k looks frees more b h few n.
    gives_back _ t k c.args.self.now c.in-Free.charge c.args.at c.args.reason looks frees more c.requires.stage b (rw c.in-Free.is at h) n

pub returns-in-Done-clause-turn : goal.returns-in-Done-clause-turn
returns-in-Done-clause-turn g c = λ t k looks frees more b h few n.
    let h2 = rw c.in-Done.is at h in
    let past = gives_past _ more h2.0 in
    c.leave_back.ensures.turn t k looks frees b h2.2 (omega arith)
