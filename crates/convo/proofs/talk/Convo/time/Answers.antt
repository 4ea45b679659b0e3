use Rattle.convo.specs.Directions.{DirStands}
use Rattle.std.proofs.Common.{refl, sym, subst, [], arith}
use Rattle.evring.specs.declared.way.Way.TheVariants.{Fore}
use Rattle.streamdefs.specs.Direction.Deed.{Falls_due}
use Rattle.flowdir.specs.Boundary.{IsStep, charge_by}
use Rattle.convo.specs.Standing.{IsMidway}
use Rattle.convo.proofs.Dirs.{midway_of}
use Rattle.convo.proofs.Results.{if_ok_both, if_ok_map}
use Rattle.convo.proofs.Lefts.{time_left}
use Rattle.convo.proofs.talk.Convo.time.Goals as goal

pub returns-clause-turn : goal.returns-clause-turn
returns-clause-turn g c = if_ok_map c.go_time_fore.result c.go_time_fore.ensures.turn (λ want turn t k s r.
    let paid = charge_by g.C.Charge.amount g.C.Charge.stamp in
    let x1 = c.time_way.new.self in
    let step0 = c.in_ok-step.ensures.step t k.convo.directions.fore s.shape r.quiet.plain.settled.fore r.fore in
    let step1 = subst (λ kd. IsStep paid (DirStands paid x1.fore.dir) t kd k.convo.directions.fore (Falls_due c.args.at []) 0 [] c.in_ok-step.step) r.kinds.fore_is step0 in
    let m = subst (λ x. IsMidway paid t x k Fore) (sym c.in_ok-step.ensures.same)
    (midway_of paid t k Fore c.args.self.now x1.fore.dir _ tt r c.in_ok-step.ensures.kind) in
    turn t k [] [] s m step1 (omega arith) (omega arith))

pub returns-clause-left : goal.returns-clause-left
returns-clause-left g c = if_ok_both c.go_time_fore.result c.go_time_fore.ensures.left c.go_time_fore.ensures.due (λ want a b.
    (time_left c.args.set.now.shape.hole c.args.set.now.shape.flush c.args.at _ c.args.self.now c.time_way.new.self c.go_time_fore.new.self c.in_ok-step.step want refl c.in_ok-step.ensures.same c.in_ok-step.ensures.left a b).left)

pub returns-clause-due : goal.returns-clause-due
returns-clause-due g c = if_ok_both c.go_time_fore.result c.go_time_fore.ensures.left c.go_time_fore.ensures.due (λ want a b.
    (time_left c.args.set.now.shape.hole c.args.set.now.shape.flush c.args.at _ c.args.self.now c.time_way.new.self c.go_time_fore.new.self c.in_ok-step.step want refl c.in_ok-step.ensures.same c.in_ok-step.ensures.left a b).due)

pub returns-clause-less : goal.returns-clause-less
returns-clause-less g c = if_ok_both c.go_time_fore.result c.go_time_fore.ensures.left c.go_time_fore.ensures.due (λ want a b.
    (time_left c.args.set.now.shape.hole c.args.set.now.shape.flush c.args.at _ c.args.self.now c.time_way.new.self c.go_time_fore.new.self c.in_ok-step.step want refl c.in_ok-step.ensures.same c.in_ok-step.ensures.left a b).less)
