use Rattle.std.proofs.Common.{◌∷◌}
use Rattle.reorder.proofs.HeldParts.{part_is}
use Rattle.reorder.proofs.held.Held.into_part.Goals as goal

pub returns : goal.returns
returns g c = part_is c.self.inside.at (c.self.inside.first ∷ c.self.inside.more.items) c.self.inside.part c.args.self c.self.invariant.0 c.self.view_is
