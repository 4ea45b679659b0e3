use Rattle.std.proofs.Common.{◌∙◌, ◌+◌, ℕ, drop, length, subst}
use Rattle.reorder.specs.Search.{BeginsFrom}
use Rattle.reorder.proofs.Places.{front_all}
use Rattle.reorder.proofs.covered.overlay_parts.Goals as goal

pub returns-clause-ok : goal.returns-clause-ok
returns-clause-ok g c =
    let n : ℕ = c.args.first + length c.in_ok-made.made.items in
    c.settle_parts.ensures.settled
    ∙ front_all c.args.over.policy c.args.over.start c.args.over.from c.args.bytes.now 0 n c.args.parts.now.items c.requires.ascends
    (subst (λ (k : ℕ). BeginsFrom k (drop n c.args.parts.now.items)) c.requires.to c.in_ok-made.ensures.all)

pub returns-clause-some : goal.returns-clause-some
returns-clause-some g c = (c.args.first + length c.in_ok-made.made.items, c.settle_parts.ensures.settled)
