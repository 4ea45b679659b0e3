use Rattle.std.proofs.Common.{◌≡◌, sym, ap, ◌∙◌, ℕ, List, [], ◌∷◌, replicate}
use Rattle.histbook.specs.declared.core_entry.CoreEntry.{CoreEntry}
use Rattle.prio_budget.specs.BudgetParts.{BudgetParts}
use Rattle.datagrams.specs.declared.whole_replay.WholeReplay.{WholeReplay}
use Rattle.datagrams.specs.State.{State}
use Rattle.datagrams.proofs.EnterLemmas.{if_both}
use Rattle.datagrams.proofs.WholeLemmas.{nothing_held, whole_named}
use Rattle.datagrams.proofs.whole.finish.Goals as goal

pub returns-clause-used : goal.returns-clause-used
returns-clause-used c =
    let s : State = c.args.replay in
    ap (λ (b : BudgetParts). b.used) c.into_parts-budget.ensures.budget ∙ sym c.into_parts-budget.ensures.held ∙ nothing_held s.table s.waiting c.requires.shut c.requires.calm

pub returns-clause-whole : goal.returns-clause-whole
returns-clause-whole c =
    let s : State = c.args.replay in
    let m = c.into_parts-budget.result.1 in
    let unused : s.budget.used ≡ 0 = sym c.into_parts-budget.ensures.held ∙ nothing_held s.table s.waiting c.requires.shut c.requires.calm in
    if_both c.whole_of-whole.result
    (λ (w : WholeReplay) (j : (w.journal.cores ≡ m.book.items ∷ []) × (w.journal.workers ≡ replicate m.answered 0 ∷ []))
    (same : (w.text.items ≡ m.text.items) × (w.table ≡ m.table) × (w.stamps ≡ c.stamp-stamps.result) × (w.peak ≡ m.peak) × (w.refused ≡ m.refused)). λ t last first packets stands.
    whole_named t last first packets s w.journal w.text.items w.table w.stamps w.peak w.refused stands c.requires.calm unused
    (j.0 ∙ ap (λ (book : List CoreEntry). book ∷ []) c.into_parts-budget.ensures.book) (j.1 ∙ ap (λ (n : ℕ). replicate n 0 ∷ []) c.into_parts-budget.ensures.numbers.0)
    (same.0 ∙ c.into_parts-budget.ensures.text) (same.1 ∙ c.into_parts-budget.ensures.table)
    (same.2 ∙ c.stamp-stamps.ensures ∙ ap (λ (b : BudgetParts). b.stamp) c.into_parts-budget.ensures.budget)
    (same.3 ∙ c.into_parts-budget.ensures.numbers.1) (same.4 ∙ c.into_parts-budget.ensures.numbers.2))
    c.whole_of-whole.ensures.journal c.whole_of-whole.ensures.same
