use Rattle.convo.specs.Directions.{DirStands}
use Rattle.std.proofs.Common.{sym, subst, [], arith}
use mathlib.Core.List.{append-nil}
use Rattle.streamdefs.specs.Direction.Deed.{Falls_due}
use Rattle.streamdefs.specs.Convo.Act.{Time}
use Rattle.flowdir.specs.Boundary.{IsStep, charge_by}
use Rattle.convo.specs.Talk.{IsWantOf}
use Rattle.convo.specs.Stands.{Stands}
use Rattle.convo.specs.Timings.{IsTimeDone}
use Rattle.convo.proofs.TimeTurn.{done_dir}
use Rattle.convo.proofs.talk.Convo.begin_time_back.Goals as goal

pub returns-clause-turn : goal.returns-clause-turn
returns-clause-turn g c = λ t k looks frees s d there n.
    let paid = charge_by g.C.Charge.amount g.C.Charge.stamp in
    let x1 = c.time_way.new.self in
    let step0 = c.in_ok-step.ensures.step t k.convo.directions.back s.shape d.quiet.plain.settled.back there in
    let step1 = subst (λ kd. IsStep paid (DirStands paid x1.back.dir) t kd k.convo.directions.back (Falls_due c.args.at.at []) 0 [] c.in_ok-step.step) d.kinds.back_is step0 in
    let d1 = subst (λ x. IsTimeDone paid t x k c.args.at.at looks) (sym c.in_ok-step.ensures.same)
    (done_dir paid t c.args.self.now x1.back.dir c.args.at k c.args.at.at looks c.in_ok-step.ensures.kind d) in
    subst (λ l. IsWantOf paid (Stands paid c.go_time_back.new.self t) t k (Time c.args.at.at l frees) 0 c.go_time_back.result) (append-nil looks)
    (c.go_time_back.ensures.turn t k looks [] frees 0 s d1 step1 (omega (arith, n)))
