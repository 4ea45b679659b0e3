use Rattle.convo.specs.Directions.{DirStands}
use Rattle.std.proofs.Common.{sym, subst, [], arith}
use Rattle.evring.specs.declared.way.Way.TheVariants.{Fore}
use Rattle.streamdefs.specs.Direction.Deed.{Ends}
use Rattle.flowdir.specs.Boundary.{IsStep, charge_by}
use Rattle.convo.specs.Standing.{IsMidway}
use Rattle.convo.proofs.Dirs.{midway_of}
use Rattle.convo.proofs.Results.{if_ok_map}
use Rattle.convo.proofs.talk.Convo.end.Goals as goal

pub returns-clause-turn : goal.returns-clause-turn
returns-clause-turn g c = if_ok_map c.go_end_fore.result c.go_end_fore.ensures.turn (λ want turn t k s r.
    let paid = charge_by g.C.Charge.amount g.C.Charge.stamp in
    let x1 = c.end_way.new.self in
    let step0 = c.in_ok-step.ensures.step t k.convo.directions.fore [] r.fore in
    let step1 = subst (λ kd. IsStep paid (DirStands paid x1.fore.dir) t kd k.convo.directions.fore (Ends c.args.at) 0 [] c.in_ok-step.step) r.kinds.fore_is step0 in
    let m = subst (λ x. IsMidway paid t x k Fore) (sym c.in_ok-step.ensures.same)
    (midway_of paid t k Fore c.args.self.now x1.fore.dir _ tt r c.in_ok-step.ensures.kind) in
    turn t k [] [] s m step1 (omega arith))
