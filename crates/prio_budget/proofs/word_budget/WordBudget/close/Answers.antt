use Rattle.std.proofs.Common.{ℕ, ◌+◌, length, sym, ap, ◌∙◌, subst, subst₂, arith}
use Rattle.prio_budget.specs.WordParts.{HomeParts}
use Rattle.prio_budget.specs.declared.look.Look.{Look}
use Rattle.prio_budget.specs.Share.{IsWhole}
use Rattle.prio_budget.specs.History.{IsOneHistory}
use Rattle.prio_budget.proofs.WholeLemmas.{closes}
use Rattle.prio_budget.proofs.word_budget.WordBudget.close.Goals as goal

pub free-requires : goal.free-requires
free-requires g c k below = let n = c.close_with-closed.ensures.counts.1 in let none_left = c.args.self.one_word.1 in absurd (omega (arith, below, n, none_left))

pub returns-clause-stamp : goal.returns-clause-stamp
returns-clause-stamp g c =
    let is = c.home.view_is in
    let whole : IsWhole c.home.inside.seat.me.0.share = subst (λ (h : HomeParts). IsWhole h.share) (sym is) c.requires in
    let end = closes _ _ _ c.home.inside.seat.me.0 _ _ c.word.result whole c.home.invariant.1.0 c.close_with-closed.ensures.values.2 c.word.ensures in
    ap (λ (l : Look). l.stamp) c.look_of-look.ensures ∙ end.0 ∙ ap (λ (n : ℕ). n + length c.home.inside.seat.me.0.moves) c.args.self.named.2 ∙ ap (λ (h : HomeParts). g.B.Named.first + length h.moves) is

pub returns-clause-used : goal.returns-clause-used
returns-clause-used g c =
    let is = c.home.view_is in
    let whole : IsWhole c.home.inside.seat.me.0.share = subst (λ (h : HomeParts). IsWhole h.share) (sym is) c.requires in
    let end = closes _ _ _ c.home.inside.seat.me.0 _ _ c.word.result whole c.home.invariant.1.0 c.close_with-closed.ensures.values.2 c.word.ensures in
    ap (λ (l : Look). l.found) c.look_of-look.ensures ∙ end.1

pub returns-clause-whole : goal.returns-clause-whole
returns-clause-whole g c =
    let is = c.home.view_is in
    let whole : IsWhole c.home.inside.seat.me.0.share = subst (λ (h : HomeParts). IsWhole h.share) (sym is) c.requires in
    let end = closes _ _ _ c.home.inside.seat.me.0 _ _ c.word.result whole c.home.invariant.1.0 c.close_with-closed.ensures.values.2 c.word.ensures in
    let named : IsOneHistory g.B.Named.limit g.B.Named.first c.home.inside.seat.me.0.moves c.home.inside.seat.me.0.looks = subst₂ (λ (x y : ℕ). IsOneHistory x y c.home.inside.seat.me.0.moves c.home.inside.seat.me.0.looks) c.args.self.named.1 c.args.self.named.2 end.2 in
    subst (λ (h : HomeParts). IsOneHistory g.B.Named.limit g.B.Named.first h.moves h.looks) is named
