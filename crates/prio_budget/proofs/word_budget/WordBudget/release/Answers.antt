use Rattle.std.proofs.Common.{rules, ◌≡◌, ◌<◌, ◌≤◌, sym, ap, ◌∙◌, subst, arith}
use Rattle.prio_budget.specs.declared.word_view.WordView.{WordView}
use Rattle.prio_budget.proofs.StepLemmas.{joins_as, frees_as}
use Rattle.atomic_table.specs.Table.{Me}
use Rattle.prio_budget.proofs.SplitLemmas.{share_some}
use Rattle.prio_budget.proofs.word_budget.WordBudget.release.Goals as goal

pub join_seat-requires : goal.join_seat-requires
join_seat-requires g c =
    let h = c.home.invariant in let o = c.charge.invariant in let self = c.args.self.now in
    (h.0.0 ∙ sym self.named.0, o.0.0 ∙ sym self.named.0, o.0.1, (let e = self.one_word.0 in omega (arith, e)), joins_as _ _ _ _ _ _ h.1.0 h.1.2)

pub fetch_add-word-requires : goal.fetch_add-word-requires
fetch_add-word-requires g c =
    let h = c.home.invariant in let o = c.charge.invariant in let self = c.args.self.now in
    let is = c.join_seat.ensures.2 in
    let has = subst (λ (m : Me (Unit {0}) WordView). 0 < m.0.share.0) (sym is) (share_some c.home.inside.seat.me.0.share c.charge.inside.seat.me.0.share h.0.2) in
    let held : c.join_seat.new.seat.me.0.held ≡ c.charge.inside.amount = ap (λ (m : Me (Unit {0}) WordView). m.0.held) is ∙ (let a = h.1.0 in let b = o.1.0 in omega (arith, a, b)) in
    let own = subst (λ (m : Me (Unit {0}) WordView). 0 < m.0.part.0) (sym is) (share_some c.home.inside.seat.me.0.part c.charge.inside.seat.me.0.part h.1.2) in
    let most = o.1.1 in
    let range : c.charge.inside.amount ≤ 4294967295 = search rules in
    let from = c.from.ensures in
    (c.join_seat.ensures.0 ∙ h.0.0 ∙ sym self.named.0, (let e = self.one_word.0 in omega (arith, e)), frees_as _ _ _ _ _ _ has own (omega (arith, held, most)) (omega (arith, held, range, from)))
