use Rattle.convo.specs.Directions.{DirStands}
use Rattle.std.proofs.Common.{sym, subst, [], arith}
use Rattle.streamdefs.specs.Direction.Deed.{Ends}
use Rattle.flowdir.specs.Boundary.{IsStep, charge_by}
use Rattle.convo.specs.Endings.{IsBetween}
use Rattle.convo.proofs.EndSteps.{between_dir}
use Rattle.convo.proofs.talk.Convo.begin_end_back.Goals as goal

pub returns-clause-turn : goal.returns-clause-turn
returns-clause-turn g c = λ t k looks frees s b there n.
    let paid = charge_by g.C.Charge.amount g.C.Charge.stamp in
    let x1 = c.end_way.new.self in
    let step0 = c.in_ok-step.ensures.step t k.convo.directions.back [] there in
    let step1 = subst (λ kd. IsStep paid (DirStands paid x1.back.dir) t kd k.convo.directions.back (Ends c.args.at.at) 0 [] c.in_ok-step.step) b.beside.kinds.back_is step0 in
    let b1 = subst (λ x. IsBetween paid t x k c.args.at.at) (sym c.in_ok-step.ensures.same)
    (between_dir paid t c.args.self.now x1.back.dir c.args.at c.args.reason k c.args.at.at c.in_ok-step.ensures.kind b) in
    c.go_end_back.ensures.turn t k looks frees 0 b1 step1 (omega arith) (omega (arith, n))
