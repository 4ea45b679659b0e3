use Rattle.std.proofs.Common.{◌∙◌, refl, sym}
use Rattle.workrun.proofs.FreedLemmas.{awaited_bytes, room_there}
use Rattle.workrun.proofs.StandLemmas.{stands_freed}
use Rattle.workrun.proofs.worker.Worker.freed.Goals as goal

pub returns-in-Waits-clause-stands : goal.returns-in-Waits-clause-stands
returns-in-Waits-clause-stands g c = λ x s.
    stands_freed g.C.Charge.amount g.C.Charge.stamp g.H.Handler.advice x c.args.self.now _ c.in-Waits.bytes c.in-Waits.stamp c.in-Waits.release c.with_free.result c.args.free s
    (sym c.replace.ensures.value ∙ c.in-Waits.is) refl
    (awaited_bytes c.args.self.now.work c.in-Waits.bytes c.in-Waits.stamp c.in-Waits.release c.args.free.bytes c.requires.out.0 (sym c.replace.ensures.value ∙ c.in-Waits.is) c.requires.out.1)
    refl refl c.with_free.ensures.same.0 c.with_free.ensures.same.1 c.with_free.ensures.same.2
    (c.with_free.ensures.room (room_there c.args.self.now.work c.in-Waits.bytes c.in-Waits.stamp c.in-Waits.release (sym c.replace.ensures.value ∙ c.in-Waits.is) (c.args.self.now.room s.calm)))
