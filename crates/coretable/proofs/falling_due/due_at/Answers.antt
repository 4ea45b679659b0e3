use Rattle.flowdir.specs.Boundary.{charge_by}
use Rattle.coretable.specs.Held.{StandsFor}
use Rattle.std.proofs.Common.{◌≡◌, Some, ℕ, Bool}
use Rattle.convo.specs.Talk.{due_of}
use Rattle.coretable.proofs.CompleteLemmas.{if_ok}
use Rattle.coretable.proofs.FallLemmas.{given_later}
use Rattle.coretable.proofs.FinishLemmas.{at_slot}
use Rattle.coretable.proofs.falling_due.due_at.Goals as goal

pub returns-in-Some : goal.returns-in-Some
returns-in-Some g c t m o due set e k at falls =
    if_ok c.due_in.result
    (at_slot (StandsFor (charge_by g.C.Charge.amount g.C.Charge.stamp) t) (λ q (v : ℕ × Bool). due_of t q ≡ Some due → v ≡ due) t m c.args.desk.now c.args.place o c.in-Some.slot.now c.due_in.result e k at c.in-Some.ensures
    (λ k' talk st stands. given_later (λ (v : ℕ × Bool). v ≡ due) c.due_in.result (λ d. c.due_in.ensures t k' talk due set st stands d)))
    (λ v h. h falls)
