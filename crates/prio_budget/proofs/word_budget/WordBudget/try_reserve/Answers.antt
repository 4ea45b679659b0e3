use Rattle.std.proofs.Common.{◌≡◌, ℕ, ◌+◌, ◌<◌, ◌-◌, sym, ap, ◌∙◌, subst, arith}
use Rattle.prio_budget.specs.declared.word_view.WordView.{WordView}
use Rattle.prio_budget.specs.declared.look.Look.{Look}
use Rattle.prio_budget.specs.WordRule.{stamp_in, used_in}
use Rattle.prio_budget.specs.WordSteps.{moved, look_in}
use Rattle.prio_budget.specs.declared.budget_move.BudgetMove.TheVariants.{Grant}
use Rattle.prio_budget.proofs.StepLemmas.{splits_as, looks_as, asks_as, won}
use Rattle.atomic_table.specs.Table.{Me, step}
use mathlib.Core.Option.{none}
use Rattle.prio_budget.proofs.SplitLemmas.{charge_cut}
use Rattle.prio_budget.proofs.AnswerLemmas.{missed, lost_as}
use Rattle.prio_budget.proofs.word_budget.WordBudget.try_reserve.Goals as goal

pub load-word-requires : goal.load-word-requires
load-word-requires g c =
    let h = c.home.invariant in let self = c.args.self.now in
    (h.0.0 ∙ sym self.named.0, (let e = self.one_word.0 in omega (arith, e)), looks_as _ _ _ _ _ h.0.2 h.1.2)

pub compare_exchange-found-requires : goal.compare_exchange-found-requires
compare_exchange-found-requires g c =
    let h = c.home.invariant in let self = c.args.self.now in
    let is = c.load-word.ensures.2.0 in
    let has : 0 < c.load-word.new.seat.me.0.share.0 = subst (λ (m : Me (Unit {0}) WordView). 0 < m.0.share.0) (sym is) h.0.2 in
    let own : 0 < c.load-word.new.seat.me.0.part.0 = subst (λ (m : Me (Unit {0}) WordView). 0 < m.0.part.0) (sym is) h.1.2 in
    let some_asked = c.requires.asked in
    let bare : c.load-word.new.seat.me.0.held ≡ 0 = ap (λ (m : Me (Unit {0}) WordView). m.0.held) is ∙ h.1.0 in
    let word : ℕ = c.load-word.result in
    let look = c.look_of-first.ensures in
    let stamp : c.look_of-first.result.stamp ≡ stamp_in word = ap (λ (l : Look). l.stamp) look in
    let found : c.look_of-first.result.found ≡ used_in word = ap (λ (l : Look). l.found) look in
    let early = c.if-first-ge-SPENT_STAMP.false in
    let within = c.if-from.false in
    let a = c.from.ensures in let b = c.from-2.ensures in let d = c.from-3.ensures in let e = c.from-4.ensures in
    let limit = c.requires.mark in
    let named = self.named.1 in (
      c.load-word.ensures.0 ∙ h.0.0 ∙ sym self.named.0,
      (let one = self.one_word.0 in omega (arith, one)),
      asks_as _ _ _ _ _ _ _ has own (omega (arith, e, some_asked)) bare (omega (arith, e)) (omega (arith, early, stamp)) (omega (arith, within, found, a, b, d, e, limit, named)),
    )

pub split_seat-seat-requires : goal.split_seat-seat-requires
split_seat-seat-requires g c =
    let h = c.home.invariant in let self = c.args.self.now in
    let is = c.load-word.ensures.2.0 in
    let e = c.from-4.ensures in
    let some_asked = c.requires.asked in
    let got = won (step self.table.shared.table_id.slots 0 c.load-word.result (c.load-word.result + 4294967296 + c.from-4.result) none) c.load-word.new.seat.me c.compare_exchange-found.result c.compare_exchange-found.new.seat.me c.if-found-word.true c.compare_exchange-found.ensures.2 in
    let own : 0 < c.compare_exchange-found.new.seat.me.0.part.0 = subst (λ (m : Me (Unit {0}) WordView). 0 < m.0.part.0) (sym (got ∙ ap (λ (m : Me (Unit {0}) WordView). (moved (c.load-word.result + 4294967296 + c.from-4.result - c.load-word.result - 4294967296) (Grant (look_in c.compare_exchange-found.result) (c.load-word.result + 4294967296 + c.from-4.result - c.load-word.result - 4294967296)) m.0, m.1)) is)) h.1.2 in
    let held : c.compare_exchange-found.new.seat.me.0.held ≡ c.load-word.result + 4294967296 + c.from-4.result - c.load-word.result - 4294967296 = ap (λ (m : Me (Unit {0}) WordView). m.0.held) got in (
      c.compare_exchange-found.ensures.0 ∙ c.load-word.ensures.0 ∙ h.0.0 ∙ sym self.named.0,
      (let one = self.one_word.0 in omega (arith, one)),
      splits_as _ _ _ _ _ _ _ _ _ _ (charge_cut _ own (omega (arith, held, e, some_asked))),
    )

pub returns-clause-answer : goal.returns-clause-answer
returns-clause-answer g c =
    let e = c.from-4.ensures in
    let exchange = step c.args.self.now.table.shared.table_id.slots 0 c.load-word.result (c.load-word.result + 4294967296 + c.from-4.result) none in
    let miss = missed exchange c.load-word.new.seat.me c.compare_exchange-found.result c.compare_exchange-found.new.seat.me c.if-found-word.false c.compare_exchange-found.ensures.2 in
    lost_as c.args.asked c.args.mark c.load-word.result c.compare_exchange-found.result c.home.inside.seat.me.0 c.load-word.new.seat.me.0 c.compare_exchange-found.new.seat.me.0 c.args.home.now c.look_of-first.result c.look_of.result c.lost.result
    c.home.view_is
    (ap (λ (m : Me (Unit {0}) WordView). m.0) c.load-word.ensures.2.0)
    c.load-word.ensures.2.1
    (ap (λ (m : Me (Unit {0}) WordView). m.0) miss)
    c.compare_exchange-found.ensures.2.1
    c.look_of-first.ensures
    c.look_of.ensures
    c.if-found-word.false
    c.lost.ensures
