use Rattle.std.proofs.Common.{◌≡◌, ◌-◌, ◌^◌, rules, length, min, to_z, of_z, w64}
use Rattle.std.proofs.Math.Facts.{to_z-of_z}
use Rattle.std.specs.VecDeque.{deque_len, deque_capacity}
use Rattle.reorder.proofs.HeldParts.{Fronts, fronts, fronts_held, fronts_weight, fronts_ascends, fronts_ends, fronts_size, at_success, on_refusal, unchanged, shown, all_cut}
use Rattle.reorder.proofs.store.Store.overlay.Given.{Over}
use Rattle.reorder.proofs.store.Store.overlay.Goals as goal

reach : (g : Over) (c : goal.After-overlay_parts g) → c.min-reach.result ≡ min (2 ^ 62 - c.args.from) (length c.args.bytes.now)
reach g c = search rules

settled_fronts : (g : Over) (c : goal.After-overlay_parts g) → Fronts c.args.policy c.args.start c.args.from c.args.bytes.now c.args.self.now.frags c.overlay_parts.new.parts.items
settled_fronts g c =
    fronts c.args.policy c.args.start (to_z w64 (of_z w64 c.args.start)) c.args.from c.args.bytes.now c.split_at.result.0.now c.min-reach.result (deque_capacity c.self.inside.parts - deque_len c.self.inside.parts)
    c.self.inside.parts.items c.overlay_parts.new.parts.items c.args.self.now c.self.view_is (to_z-of_z c.ranges.start) c.split_at.ensures.front (reach g c) c.self.invariant.ends c.overlay_parts.ensures.some

pub invariant_of-self : goal.invariant_of-self
invariant_of-self g c =
    fronts_held c.args.policy c.args.start c.args.from c.args.bytes.now c.self.inside.held c.args.self.now.frags c.overlay_parts.new.parts.items (settled_fronts g c)
    (shown (deque_capacity c.self.inside.parts - deque_len c.self.inside.parts) c.self.inside.held c.self.inside.parts.items c.args.self.now c.self.view_is c.self.invariant)

pub returns-clause-ok : goal.returns-clause-ok
returns-clause-ok g c =
    at_success c.overlay_parts.result c.overlay_parts.ensures.ok (λ h.
    all_cut c.args.policy c.args.start (to_z w64 (of_z w64 c.args.start)) c.args.from c.args.bytes.now c.split_at.result.0.now c.min-reach.result (deque_capacity c.self.inside.parts - deque_len c.self.inside.parts)
    c.self.inside.parts.items c.overlay_parts.new.parts.items c.args.self.now c.self.view_is (to_z-of_z c.ranges.start) c.split_at.ensures.front (reach g c) c.self.invariant.ends h)

pub returns-clause-err : goal.returns-clause-err
returns-clause-err g c =
    on_refusal c.overlay_parts.result c.overlay_parts.ensures.err (λ e.
    unchanged c.self.inside.parts.items c.overlay_parts.new.parts.items (deque_capacity c.self.inside.parts - deque_len c.self.inside.parts) (deque_capacity c.overlay_parts.new.parts - deque_len c.overlay_parts.new.parts)
    c.args.self.now c.self.view_is e (λ i. c.overlay_parts.ensures.capacity i - c.overlay_parts.ensures.len i))

pub returns-clause-weight : goal.returns-clause-weight
returns-clause-weight g c = λ w. fronts_weight w c.args.policy c.args.start c.args.from c.args.bytes.now c.args.self.now.frags c.overlay_parts.new.parts.items (settled_fronts g c)

pub returns-clause-places : goal.returns-clause-places
returns-clause-places g c = λ low a. fronts_ascends c.args.policy c.args.start c.args.from c.args.bytes.now low c.args.self.now.frags c.overlay_parts.new.parts.items (settled_fronts g c) a

pub returns-clause-ends : goal.returns-clause-ends
returns-clause-ends g c = λ most e. fronts_ends c.args.policy c.args.start c.args.from c.args.bytes.now most c.args.self.now.frags c.overlay_parts.new.parts.items (settled_fronts g c) e

pub returns-clause-size : goal.returns-clause-size
returns-clause-size g c = fronts_size c.args.policy c.args.start c.args.from c.args.bytes.now c.args.self.now.frags c.overlay_parts.new.parts.items (settled_fronts g c)
