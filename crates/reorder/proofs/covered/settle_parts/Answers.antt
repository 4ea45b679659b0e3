use Rattle.std.proofs.Common.{◌≡◌, ◌+◌, ◌<◌, ◌∷◌, ap, arith, length, refl}
use Rattle.reorder.proofs.Places.{front_before, front_more}
use Rattle.reorder.proofs.HeldParts.{settled_first, settled_others, settled_place}
use Rattle.reorder.proofs.covered.settle_parts.Goals as goal

pub covered-init : goal.covered-init
covered-init g c =
    (front_before c.args.over.policy c.args.over.start c.args.over.from c.args.bytes.now c.args.first c.args.parts.now.items c.requires.before, c.requires.settled, refl, refl, refl)

pub settle-requires-clause-starts : goal.settle-requires-clause-starts
settle-requires-clause-starts g c =
    let all : c.covered.made.items ≡ c.in-Some.starts ∷ c.pop_front.new.self.items = c.in-Some.ensures.items in
    settled_first c.args.over c.args.bytes.now c.covered.place c.args.parts.now.items c.covered.parts.items c.covered.made.items c.in-Some.starts c.pop_front.new.self.items c.index_mut.result.now
    all c.covered.invariant.0 c.covered.invariant.1 c.index_mut.ensures.value

pub covered-preserved : goal.covered-preserved
covered-preserved g c =
    let all : c.covered.made.items ≡ c.in-Some.starts ∷ c.pop_front.new.self.items = c.in-Some.ensures.items in
    let within : c.covered.place < length c.args.parts.now.items =
    settled_place c.args.over c.args.bytes.now c.covered.place c.args.parts.now.items c.covered.parts.items c.covered.made.items c.in-Some.starts c.pop_front.new.self.items all c.covered.invariant.0 c.covered.invariant.1 in (
      front_more c.args.over.policy c.args.over.start c.args.over.from c.args.bytes.now c.covered.place c.args.parts.now.items c.covered.parts.items c.index_mut.result.now c.settle.new.self
          within c.covered.invariant.0 c.index_mut.ensures.value c.settle.ensures,
      settled_others c.args.over c.covered.place (c.covered.place + 1) c.args.parts.now.items c.covered.made.items c.in-Some.starts c.pop_front.new.self.items (omega arith) all c.covered.invariant.1,
      omega (arith, c.covered.invariant.2, ap length all),
      c.covered.invariant.3,
      c.covered.invariant.4,
    )
