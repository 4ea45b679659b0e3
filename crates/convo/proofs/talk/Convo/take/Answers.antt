use Rattle.convo.specs.Directions.{DirStands}
use Rattle.std.proofs.Common.{sym, ◌∙◌, subst, []}
use Rattle.streamdefs.specs.Both.{of_way}
use Rattle.streamdefs.specs.Convo.{kind_of}
use Rattle.streamdefs.specs.Direction.Deed.{Arrives}
use Rattle.flowdir.specs.Boundary.{IsStep, charge_by}
use Rattle.convo.specs.Seen.{packet_of}
use Rattle.convo.specs.Standing.{IsMidway, half_of, arrival}
use Rattle.convo.specs.declared.stage.Stage.TheVariants as at
use Rattle.convo.proofs.Dirs.{way_is, arrival_is, rests_at, kind_with, midway_of}
use Rattle.convo.proofs.talk.Convo.take.Goals as goal

pub returns-clause-turn : goal.returns-clause-turn
returns-clause-turn g c = λ t k s r.
    let paid = charge_by g.C.Charge.amount g.C.Charge.stamp in
    let x = c.args.self.now in
    let p = packet_of c.args.packet.now in
    let way = c.way_of-way.result in
    let w = c.way_of-way.ensures ∙ way_is t x.origin k.convo p r.quiet.plain.origin_is in
    let st = at.Segment way c.args.packet.now.now c.has_rst-reset.result in
    let x1 = c.begin_way.new.self in
    let step0 = c.in_ok-step.ensures.step t (of_way way k.convo.directions) [] s.shape (rests_at paid t k way x st r) in
    let step1 = subst (λ kd. IsStep paid (DirStands paid (half_of way x1).dir) t kd (of_way way k.convo.directions) (Arrives (arrival x c.args.set.now way p) []) 0 [] c.in_ok-step.step) (kind_with paid t k way x st r.kinds) step0 in
    let step2 = subst (λ seg. IsStep paid (DirStands paid (half_of way x1).dir) t (kind_of t k.convo) (of_way way k.convo.directions) (Arrives seg []) 0 [] c.in_ok-step.step) (arrival_is t c.args.set.now x k.convo p way s r.quiet.plain.origin_is r.quiet.plain.own_is r.quiet.plain.ended_is w) step1 in
    let mid = subst (λ y. IsMidway paid t y k way) (sym c.in_ok-step.ensures.same) (midway_of paid t k way x (half_of way x1).dir st c.args.packet.now.timed r c.in_ok-step.ensures.kind) in
    c.go_segment.ensures.turn t k p [] [] s mid w c.has_rst-reset.ensures step2
