use Rattle.std.proofs.Common.{◌∙◌, ap, subst, sym}
use Rattle.flowdir.specs.Boundary.{charge_by}
use Rattle.streamdefs.specs.Both.{Both, of_way}
use Rattle.streamdefs.specs.Convo.{new_convo}
use Rattle.streamdefs.specs.Totals.{total_of}
use Rattle.convo.specs.Stands.{Stands}
use Rattle.convo.specs.Talk.{Sums}
use Rattle.convo.specs.Talk.Phase.{Still}
use Rattle.coretable.proofs.SummedLemmas.{dir_is}
use Rattle.coretable.proofs.held.Held.total.Goals as goal

pub returns : goal.returns
returns g c t k acts st sums =
    dir_is k.convo.first c.args.way (of_way c.args.way k.sums) c.total.result (total_of t (new_convo k.convo.first) c.args.way acts)
    (c.total.ensures t k (subst (λ x. Stands (charge_by g.C.Charge.amount g.C.Charge.stamp) x t k Still) (sym c.self.view_is) st.is))
    (ap (λ (s : Both Sums). (of_way c.args.way s).counts) sums ∙ c.sums_are_those_of_the_history.ensures.counts t k.convo.first c.args.way acts)
    (ap (λ (s : Both Sums). (of_way c.args.way s).gaps) sums ∙ c.sums_are_those_of_the_history.ensures.gaps t k.convo.first c.args.way acts)
