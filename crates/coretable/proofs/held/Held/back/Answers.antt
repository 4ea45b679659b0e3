use Rattle.std.proofs.Common.{subst, sym, ◌∙◌, ap, ◌+◌}
use Rattle.flowdir.specs.Boundary.{charge_by}
use Rattle.convo.specs.Stands.{Stands}
use Rattle.convo.specs.Talk.Phase.{Still}
use Rattle.streamdefs.specs.Convo.Act.{Answer}
use Rattle.convo.specs.Standing.{weight_of_convo}
use Rattle.convo.specs.Weights.{weight_of_chunks}
use Rattle.coretable.proofs.Closing.{closed}
use Rattle.coretable.proofs.held.Held.back.Goals as goal

pub returns-clause-turn : goal.returns-clause-turn
returns-clause-turn g c t k e n frees st answers =
    closed (charge_by g.C.Charge.amount g.C.Charge.stamp) t c.back.new.self k (Answer n c.args.advice frees) 0 c.in-Ok.want
    (c.in-Ok.ensures.turn t k e n frees (subst (λ x. Stands (charge_by g.C.Charge.amount g.C.Charge.stamp) x t k Still) (sym c.self.view_is) st.is) answers)

pub returns-clause-weight : goal.returns-clause-weight
returns-clause-weight g c w = c.in-Ok.ensures.weight w ∙ ap (λ x. weight_of_convo w x + weight_of_chunks w c.args.kept) c.self.view_is
