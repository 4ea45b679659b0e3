use Rattle.std.proofs.Common.{◌-◌, ◌<◌, ◌≤◌, ◌∙◌, ap, arith, rules, length, to_z, of_z, w64}
use Rattle.std.proofs.Math.Facts.{to_z-of_z}
use Rattle.std.specs.VecDeque.{deque_len, deque_capacity}
use Rattle.reorder.specs.Frags.{cells_of, weight_in}
use Rattle.reorder.proofs.Places.{put_weight}
use Rattle.reorder.proofs.HeldParts.{fits_more, put_new, put_kept, room_is}
use Rattle.reorder.proofs.store.Store.put.Goals as goal

pub overflow_add-self : goal.overflow_add-self
overflow_add-self g c =
    omega (arith, fits_more c.self.inside.held c.len.result c.args.at (to_z w64 (of_z w64 c.args.start)) c.args.part c.new-held.result c.self.inside.parts.items c.new-held.ensures c.self.invariant c.requires.within c.len.ensures)

is_put : goal.returns-clause-parts
is_put g c =
    let within : c.first_behind-place.result ≤ length c.self.inside.parts.items = search rules in
    let room : 0 < deque_capacity c.self.inside.parts - deque_len c.self.inside.parts =
    room_is c.self.inside.parts.items (deque_capacity c.self.inside.parts - deque_len c.self.inside.parts) c.args.self.now c.self.view_is c.requires.room in
    put_new c.self.inside.held c.first_behind-place.result c.args.at (deque_capacity c.self.inside.parts - deque_len c.self.inside.parts) c.args.start (to_z w64 (of_z w64 c.args.start)) c.args.part c.new-held.result
    c.self.inside.parts.items c.insert.new.self.items c.args.self.now c.insert.result
    c.self.view_is c.new-held.ensures (to_z-of_z c.ranges.start) c.self.invariant c.requires.some c.requires.clear within c.first_behind-place.ensures.before c.first_behind-place.ensures.behind
    c.insert.ensures.items c.insert.ensures.full (λ h. omega (arith, h, room))

pub invariant_of-self : goal.invariant_of-self
invariant_of-self g c =
    put_kept c.self.inside.held c.len.result c.args.at (deque_capacity c.self.inside.parts - deque_len c.self.inside.parts) c.args.start (to_z w64 (of_z w64 c.args.start)) c.args.part c.new-held.result
    c.self.inside.parts.items c.insert.new.self.items c.args.self.now
    c.self.view_is c.new-held.ensures (to_z-of_z c.ranges.start) c.self.invariant c.requires.some c.requires.clear c.requires.within c.len.ensures (is_put g c)

pub returns-clause-parts : goal.returns-clause-parts
returns-clause-parts g c = is_put g c

pub returns-clause-weight : goal.returns-clause-weight
returns-clause-weight g c = λ w.
    ap (weight_in w) (is_put g c) ∙ put_weight w (record { at = c.args.at; cells = cells_of c.args.start c.args.part.0; charge = c.args.part.1 }) c.args.self.now.frags
