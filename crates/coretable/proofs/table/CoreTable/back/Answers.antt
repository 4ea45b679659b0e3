use Rattle.std.proofs.Common.{sym, ◌∙◌, ap}
use Rattle.flowdir.specs.Boundary.{charge_by}
use Rattle.coretable.specs.declared.table.CoreTable.{CoreTable}
use Rattle.coretable.specs.Course.{answer_line, begun, core_of}
use Rattle.coretable.proofs.CompleteLemmas.{on_ok}
use Rattle.coretable.proofs.Soundness.{answer_is_sound}
use Rattle.coretable.proofs.StandLemmas.{draining_stands_not, rests_idle, stands_at}
use Rattle.coretable.proofs.table.CoreTable.back.Goals as goal

pub returns-then-is_calm-clause-stands : goal.returns-then-is_calm-clause-stands
returns-then-is_calm-clause-stands g c t last handler m told h stated frees kept =
    let paid = charge_by g.C.Charge.amount g.C.Charge.stamp in
    let x = c.args.self.now in
    let r = rests_idle paid t m x.desk x.state c.requires.rests h.at in
    let n = begun m (answer_line (core_of t m) told.conv c.args.answer.advice c.args.answer.frees) in
    on_ok c.begin_answer.result (c.begin_answer.ensures.stands t last handler m told h.sound r.0 r.1.keeps stated.next frees kept)
    (λ at. stands_at paid t last handler x c.begin_answer.new.self m n h (answer_is_sound t last handler m told c.args.answer.advice c.args.answer.frees h.sound r.0 stated) at
    (ap (λ (y : CoreTable g.row.C.Denot). y.set) c.begin_answer.ensures.rest) (ap (λ (y : CoreTable g.row.C.Denot). y.ready) c.begin_answer.ensures.rest) (ap (λ (y : CoreTable g.row.C.Denot). y.over) c.begin_answer.ensures.rest))

pub returns-clause-stands : goal.returns-clause-stands
returns-clause-stands g c t last handler m told h stated frees kept =
    absurd (draining_stands_not (charge_by g.C.Charge.amount g.C.Charge.stamp) t m c.args.self.now.desk c.args.self.now.state (sym c.is_calm.ensures ∙ c.if-is_calm.false) h.at)
