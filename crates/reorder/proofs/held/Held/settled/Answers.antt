use Rattle.std.proofs.Common.{◌∙◌}
use Rattle.reorder.proofs.HeldParts.{are_settled}
use Rattle.reorder.proofs.held.Held.settled.Goals as goal

pub returns : goal.returns
returns g c =
    are_settled c.args.over c.self.inside.at c.self.inside.first c.self.inside.more.items c.deref.result.now c.of.result c.self.inside.part c.args.self.now
    c.requires c.deref.ensures.value (c.of.ensures ∙ c.in_ok-made.ensures) c.self.invariant.0 c.self.view_is
