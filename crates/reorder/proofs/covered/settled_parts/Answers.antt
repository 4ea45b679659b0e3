use Rattle.std.proofs.Common.{◌≡◌, [], ◌∷◌, ◌++◌, ap, arith, length, length-append, rules}
use Rattle.reorder.proofs.HeldParts.{settled_step}
use Rattle.reorder.proofs.covered.settled_parts.Goals as goal

pub covered-preserved : goal.covered-preserved
covered-preserved g c =
    let more : c.push_back.new.self.items ≡ c.covered.made.items ++ c.in_ok-starts.starts ∷ [] = search rules in (
      settled_step c.args.over c.args.first c.covered.place c.args.parts.now.items c.covered.made.items c.push_back.new.self.items c.in-Some.held.now c.in_ok-starts.starts
          c.covered.invariant.1 c.covered.invariant.0 c.in-Some.ensures.some.2 c.in_ok-starts.ensures more,
      omega (arith, c.covered.invariant.1, ap length more, length-append c.covered.made.items (c.in_ok-starts.starts ∷ [])),
    )
