use Rattle.std.proofs.Common.{ℕ, ◌+◌, ◌*◌, ◌%◌, ap, sym, ◌∙◌}
use Rattle.std.specs.Prelude.{Some}
use Rattle.workrun.specs.Circle.{count_of}
use Rattle.workrun.proofs.CircleLemmas.{round_get}
use Rattle.workrun.proofs.circle.Circle.core_at.Goals as goal

pub returns-clause-order : goal.returns-clause-order
returns-clause-order c =
    let f : ℕ = c.args.self.now.first in
    let s : ℕ = c.args.self.now.step in
    let n : ℕ = count_of f s c.args.self.now.cores in
    round_get (λ (k : ℕ). f + s * ((c.args.self.now.at + k) % n)) n c.args.turn c.requires
    ∙ ap (λ (m : ℕ). Some (f + s * ((c.args.self.now.at + c.args.turn) % m))) (sym c.count-count.ensures.is)
    ∙ ap Some (sym c.core_of.ensures.is)
