use Rattle.std.proofs.Common.{arith, length}
use Rattle.convo.proofs.EndSteps.{gives_fore}
use Rattle.convo.proofs.GivesSteps.{gives_past}
use Rattle.convo.proofs.Results.{if_ok_map}
use Rattle.convo.proofs.talk.Convo.go_end_fore.Goals as goal

pub returns-in-Free-clause-turn : goal.returns-in-Free-clause-turn
returns-in-Free-clause-turn g c = λ t k looks frees s m h few.
    gives_fore _ t k c.args.self.now c.in-Free.charge c.args.at c.args.reason looks frees c.requires.stage m (rw c.in-Free.is at h)

pub returns-in-Done-clause-turn : goal.returns-in-Done-clause-turn
returns-in-Done-clause-turn g c = if_ok_map c.leave_fore.result c.leave_fore.ensures.turn (λ want turn t k looks frees s m h few.
    let h2 = rw c.in-Done.is at h in
    let past = gives_past _ (length frees) h2.0 in
    turn t k looks frees s m h2.2 (omega arith))
