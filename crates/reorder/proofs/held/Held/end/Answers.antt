use Rattle.std.proofs.Common.{◌≡◌, ◌∷◌, arith, length, refl}
use Rattle.reorder.proofs.HeldParts.{len_is}
use Rattle.reorder.proofs.held.Held.end.Goals as goal

pub overflow_add-result : goal.overflow_add-result
overflow_add-result g c =
    let e : length c.self.inside.part.0 ≡ length c.args.self.now.cells =
    len_is c.self.inside.at (c.self.inside.first ∷ c.self.inside.more.items) c.self.inside.part.0 c.self.inside.part.1 c.args.self.now c.self.inside.part.0 refl c.self.invariant.0 c.self.view_is in
    omega (arith, c.self.invariant.1, c.len.ensures, e)
