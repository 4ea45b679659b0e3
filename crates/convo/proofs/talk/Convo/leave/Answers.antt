use Rattle.std.proofs.Common.{◌≡◌, ℕ, ◌+◌, List, [], ap, arith}
use Rattle.chunkpart.specs.ChunkParts.{ChunkParts}
use Rattle.evring.specs.declared.way.Way.{Way}
use Rattle.evring.specs.declared.way.Way.TheVariants.{Fore, Back}
use Rattle.convo.specs.Counted.{IsUncounted}
use Rattle.convo.specs.Going.{charges_going, weight_of_charges}
use Rattle.convo.specs.Halves.{weight_of_half}
use Rattle.convo.specs.Standing.{half_of, weight_of_convo, with_half}
use Rattle.convo.specs.Weights.{weight_of_chunks}
use Rattle.convo.specs.declared.going.Going.{Going}
use Rattle.convo.specs.declared.stage.Stage.{Stage}
use Rattle.convo.specs.declared.stage.Stage.TheVariants as at
use Rattle.convo.specs.declared.talk.Convo.{Convo}
use Rattle.convo.proofs.Lefts.{leave_left}
use Rattle.convo.proofs.talk.Convo.leave.Goals as goal

leave_sums : {C : Type 0} (way : Way) (going : Going C) (stage : Stage) (x y : Convo C) → IsUncounted (half_of way x) (half_of way y) → IsUncounted (half_of way x) (half_of way (record y { going = going; stage = stage }))
leave_sums Fore going stage x y h = h
leave_sums Back going stage x y h = h

leave_weight : {C : Type 0} (way : Way) (w : C → ℕ) (kept : List (ChunkParts C)) (going : Going C) (stage : Stage) (x y : Convo C) → charges_going x.going ≡ [] → y ≡ with_half way (half_of way y) x
    → weight_of_half w (half_of way y) + weight_of_chunks w kept ≡ weight_of_half w (half_of way x) → weight_of_charges w (charges_going going) ≡ weight_of_chunks w kept
    → weight_of_convo w (record y { going = going; stage = stage }) ≡ weight_of_convo w x
leave_weight Fore w kept going stage x y gone same h e =
    let a = ap (λ y. weight_of_convo w (record y { going = going; stage = stage })) same in
    let z = ap (weight_of_charges w) gone in
    omega arith
leave_weight Back w kept going stage x y gone same h e =
    let a = ap (λ y. weight_of_convo w (record y { going = going; stage = stage })) same in
    let z = ap (weight_of_charges w) gone in
    omega arith

pub returns-clause-sums : goal.returns-clause-sums
returns-clause-sums g c = leave_sums c.args.way c.of.result (at.Unshown c.args.at c.args.reason c.args.way) c.args.self.now c.unshown_way-kept.new.self c.unshown_way-kept.ensures.sums

pub returns-clause-weight : goal.returns-clause-weight
returns-clause-weight g c = λ w.
    leave_weight c.args.way w c.unshown_way-kept.result c.of.result (at.Unshown c.args.at c.args.reason c.args.way) c.args.self.now c.unshown_way-kept.new.self c.requires.gone c.unshown_way-kept.ensures.same
    (c.unshown_way-kept.ensures.weight w) (c.of.ensures.weight w)

pub returns-clause-left : goal.returns-clause-left
returns-clause-left g c =
    (leave_left c.args.way c.of.result (at.Unshown c.args.at c.args.reason c.args.way) c.args.self.now c.unshown_way-kept.new.self c.unshown_way-kept.ensures.same c.unshown_way-kept.ensures.left).0

pub returns-clause-work : goal.returns-clause-work
returns-clause-work g c =
    (leave_left c.args.way c.of.result (at.Unshown c.args.at c.args.reason c.args.way) c.args.self.now c.unshown_way-kept.new.self c.unshown_way-kept.ensures.same c.unshown_way-kept.ensures.left).1
