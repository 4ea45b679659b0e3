use Rattle.std.proofs.Common.{ap, sym, subst, ◌∙◌}
use Rattle.flowdir.specs.Boundary.{charge_by}
use Rattle.convo.specs.Talk.{SetsUp}
use Rattle.coretable.specs.Table.{weight}
use Rattle.coretable.specs.declared.table.CoreTable.{CoreTable}
use Rattle.coretable.proofs.NextLemmas.{asked_weight, unpriced, when_err}
use Rattle.coretable.proofs.TurnLemmas.{comes_by, stands_unnoted}
use Rattle.coretable.proofs.table.CoreTable.next.Goals as goal

pub returns-then-is_err-clause-err : goal.returns-then-is_err-clause-err
returns-then-is_err-clause-err g c w =
    c.give_up.ensures.weight w ∙ ap (weight w) c.take_grant.ensures.rest
    ∙ unpriced _ _ _ (c.in_ok-turn.ensures.weight w) (asked_weight (charge_by g.C.Charge.amount g.C.Charge.stamp) w c.in_ok-turn.turn (when_err c.take_grant.result c.take_grant.ensures.asks (sym c.is_err.ensures.value ∙ c.if-is_err.true)))
    ∙ ap (weight w) c.note_none.ensures

pub returns-clause-comes : goal.returns-clause-comes
returns-clause-comes g c t last handler m h =
    let paid = charge_by g.C.Charge.amount g.C.Charge.stamp in
    let x = c.next_working.new.self in
    let set = ap (λ (x : CoreTable g.row.C.Denot). x.set) c.next_working.ensures.rest ∙ ap (λ (x : CoreTable g.row.C.Denot). x.set) c.note_none.ensures in
    comes_by paid t last handler m x c.note-2.new.self c.in_ok-turn.turn (subst (λ s. SetsUp s t) (sym set) h.sets) h.sound
    (c.in_ok-turn.ensures.comes t last handler m (stands_unnoted paid t last handler m c.args.self.now c.note_none.new.self c.note_none.ensures h))
    (ap (λ (x : CoreTable g.row.C.Denot). x.set) c.note-2.ensures ∙ ap (λ (x : CoreTable g.row.C.Denot). x.set) c.take_grant.ensures.rest)
    (ap (λ (x : CoreTable g.row.C.Denot). x.desk) c.note-2.ensures ∙ ap (λ (x : CoreTable g.row.C.Denot). x.desk) c.take_grant.ensures.rest)
    (ap (λ (x : CoreTable g.row.C.Denot). x.state) c.note-2.ensures ∙ ap (λ (x : CoreTable g.row.C.Denot). x.state) c.take_grant.ensures.rest)
    (ap (λ (x : CoreTable g.row.C.Denot). x.ready) c.note-2.ensures) (ap (λ (x : CoreTable g.row.C.Denot). x.over) c.note-2.ensures)
