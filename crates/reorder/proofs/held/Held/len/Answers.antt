use Rattle.std.proofs.Common.{◌∷◌}
use Rattle.reorder.proofs.HeldParts.{len_is}
use Rattle.reorder.proofs.held.Held.len.Goals as goal

pub returns : goal.returns
returns g c =
    len_is c.self.inside.at (c.self.inside.first ∷ c.self.inside.more.items) c.self.inside.part.0 c.self.inside.part.1 c.args.self.now c.bytes.result.now c.bytes.ensures.bytes c.self.invariant.0 c.self.view_is
