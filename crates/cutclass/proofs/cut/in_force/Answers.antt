use Rattle.std.proofs.Common.{[], ◌∷◌, ◌∙◌}
use Rattle.cutclass.proofs.cut.in_force.Goals as goal

pub returns : goal.returns
returns c =
    c.position.ensures
    ∙ c.or-3.ensures []
    ∙ c.or-2.ensures (c.args.default ∷ [])
    ∙ c.or.ensures (c.args.direction ∷ c.args.default ∷ [])
