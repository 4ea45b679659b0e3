use Rattle.std.specs.Prelude.{◌≡◌, ◌++◌, OnOk}
use Rattle.flowdir.specs.Boundary.{charge_by}
use Rattle.coretable.specs.Held.{StandsFor}
use Rattle.coretable.specs.Summed.{dirs_in}
use Rattle.coretable.proofs.SummedLemmas.{summed}
use Rattle.coretable.proofs.summing.put_place.Goals as goal

pub returns-in-Some : goal.returns-in-Some
returns-in-Some g c t last handler m o sound e k at =
    summed (StandsFor (charge_by g.C.Charge.amount g.C.Charge.stamp) t) (λ x. OnOk c.put_slot.result (c.put_slot.new.totals.items ≡ c.args.totals.now.items ++ dirs_in x)) t last handler m c.args.desk.now c.args.place o c.in-Some.slot.now sound e k at
    c.in-Some.ensures (λ k' talk acts st stands sums. c.put_slot.ensures t k' talk acts st stands sums)
