use Rattle.std.proofs.Common.{sym, ◌∙◌, arith}
use Rattle.prio_budget.proofs.StepLemmas.{joins_as}
use Rattle.prio_budget.proofs.WholeLemmas.{checks_at}
use Rattle.prio_budget.proofs.word_budget.WordBudget.gather.Goals as goal

pub join_seat-requires : goal.join_seat-requires
join_seat-requires g c =
    let h = c.home.invariant in let o = c.other.invariant in let self = c.args.self.now in
    (h.0.0 ∙ sym self.named.0, o.0.0 ∙ sym self.named.0, o.0.1, (let e = self.one_word.0 in omega (arith, e)), joins_as _ _ _ _ _ _ h.1.0 h.1.2)

pub load-requires : goal.load-requires
load-requires g c =
    let h = c.home.invariant in let self = c.args.self.now in
    (c.join_seat.ensures.0 ∙ h.0.0 ∙ sym self.named.0, (let e = self.one_word.0 in omega (arith, e)), checks_at _ _ _ _ _ _ _ self.named.1 self.named.2)
