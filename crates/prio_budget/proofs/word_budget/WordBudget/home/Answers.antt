use Rattle.std.proofs.Common.{sym, ◌∙◌, arith}
use Rattle.prio_budget.proofs.SplitLemmas.{home_cut}
use Rattle.prio_budget.proofs.StepLemmas.{splits_as}
use Rattle.prio_budget.proofs.word_budget.WordBudget.home.Goals as goal

pub split_seat-requires : goal.split_seat-requires
split_seat-requires g c =
    let h = c.from.invariant in let self = c.args.self.now in
    (h.0.0 ∙ sym self.named.0, (let e = self.one_word.0 in omega (arith, e)), splits_as _ _ _ _ _ _ _ _ _ _ (home_cut _ h.1.2))
