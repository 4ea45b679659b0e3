use Rattle.std.proofs.Common.{refl, sym, subst}
use Rattle.flowdir.specs.Boundary.{charge_by}
use Rattle.coretable.specs.Table.{IsAtState, under_way}
use Rattle.coretable.specs.Course.{freed}
use Rattle.coretable.proofs.StandLemmas.{stands_at}
use Rattle.coretable.proofs.table.CoreTable.freed.Goals as goal

pub returns-clause-stands : goal.returns-clause-stands
returns-clause-stands g c t last handler m h =
    let paid = charge_by g.C.Charge.amount g.C.Charge.stamp in
    let x = c.args.self.now in
    let n = under_way (λ m u. freed m u c.args.free) m in
    let d = c.released-state.ensures.stands t last handler m h.sound (subst (IsAtState paid t m x.desk) (sym c.take_state.ensures) h.at) in
    stands_at paid t last handler x _ m n h d.0 (subst (IsAtState paid t n x.desk) (sym c.put_state.ensures) d.1) refl refl refl
