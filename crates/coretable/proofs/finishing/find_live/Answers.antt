use Rattle.flowdir.specs.Boundary.{charge_by}
use Rattle.coretable.specs.Held.{StandsFor}
use Rattle.coretable.proofs.FinishLemmas.{found_first, found_none}
use Rattle.coretable.proofs.finishing.find_live.Goals as goal

pub returns-then-branch : goal.returns-then-branch
returns-then-branch g c t m e k =
    found_first (StandsFor (charge_by g.C.Charge.amount g.C.Charge.stamp) t) t m c.args.desk.now c.loop-place.place c.count_slots-count.result c.in_ok-is_live_at.field-0 e k (c.loop-place.invariant t m e k) c.loop-place-test.true c.count_slots-count.ensures c.if-branch.true
    (λ o got. c.in_ok-is_live_at.ensures t m o e k got)

pub returns : goal.returns
returns g c t m e k = found_none (StandsFor (charge_by g.C.Charge.amount g.C.Charge.stamp) t) t m c.args.desk.now c.loop-place.place c.count_slots-count.result e k (c.loop-place.invariant t m e k) c.loop-place-test.false c.count_slots-count.ensures
