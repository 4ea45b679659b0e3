use Rattle.std.proofs.Common.{refl}
use Rattle.flowdir.specs.Boundary.{charge_by}
use Rattle.coretable.proofs.Soundness.{begins_soundly}
use Rattle.coretable.proofs.TableLemmas.{new_weighs_nothing, nothing_kept}
use Rattle.coretable.proofs.table.CoreTable.new.Goals as goal

pub returns-clause-stands : goal.returns-clause-stands
returns-clause-stands g c t last handler set = record {
  sets = set;
  sound = begins_soundly t last handler;
  at = (refl, nothing_kept (charge_by g.C.Charge.amount g.C.Charge.stamp) t c.empty_desk.result c.empty_desk.ensures);
  waits = λ ready. (refl, refl);
  ends = λ over. absurd cc;
}

pub returns-clause-weight : goal.returns-clause-weight
returns-clause-weight g c w = new_weighs_nothing w c.empty_desk.result c.empty_desk.ensures
