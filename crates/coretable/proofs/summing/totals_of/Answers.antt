use Rattle.flowdir.specs.Boundary.{charge_by}
use Rattle.coretable.specs.Held.{StandsFor}
use Rattle.coretable.proofs.SummedLemmas.{grown, whole}
use Rattle.coretable.proofs.summing.totals_of.Goals as goal

pub loop-place-preserved : goal.loop-place-preserved
loop-place-preserved g c t last handler m sound e k =
    grown (StandsFor (charge_by g.C.Charge.amount g.C.Charge.stamp) t) t m c.args.desk.now c.loop-place.place c.count_slots-place-end.result c.loop-place.totals.items c.put_place.new.totals.items e k c.loop-place-test.true c.count_slots-place-end.ensures
    (c.loop-place.invariant t last handler m sound e k) (λ o at. c.in_ok-put_place.ensures t last handler m o sound e k at)

pub returns : goal.returns
returns g c t last handler m sound e k =
    whole (StandsFor (charge_by g.C.Charge.amount g.C.Charge.stamp) t) t m c.args.desk.now c.loop-place.place c.count_slots-place-end.result c.loop-place.totals.items e k c.loop-place-test.false c.count_slots-place-end.ensures
    (c.loop-place.invariant t last handler m sound e k)
