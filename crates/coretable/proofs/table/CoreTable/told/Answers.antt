use Rattle.std.proofs.Common.{refl, sym, subst}
use Rattle.flowdir.specs.Boundary.{charge_by}
use Rattle.coretable.specs.Lawfully.{IsSound}
use Rattle.coretable.specs.Table.{IsAtState, look_of, pause_by, told_course}
use Rattle.coretable.proofs.StandLemmas.{stands_at}
use Rattle.coretable.proofs.table.CoreTable.told.Goals as goal

pub returns-clause-stands : goal.returns-clause-stands
returns-clause-stands g c t last handler m unspent h =
    let paid = charge_by g.C.Charge.amount g.C.Charge.stamp in
    let x = c.args.self.now in
    let d = subst (λ s. IsSound t last handler (told_course (look_of (pause_by s) c.args.answered) m) × IsAtState paid t (told_course (look_of (pause_by s) c.args.answered) m) x.desk c.decide-state.result) c.take_state.ensures
    (c.decide-state.ensures.stands t last handler m unspent h.sound (subst (IsAtState paid t m x.desk) (sym c.take_state.ensures) h.at)) in
    let n = told_course (look_of (pause_by x.state) c.args.answered) m in
    stands_at paid t last handler x _ m n h d.0 (subst (IsAtState paid t n x.desk) (sym c.put_state.ensures) d.1) refl refl refl
