use Rattle.std.proofs.Common.{refl}
use Rattle.workrun.proofs.TurnLemmas.{done_turned, done_worked, given_turned, given_worked}
use Rattle.workrun.proofs.worker.Worker.go_on.Goals as goal

pub returns-in-Some-clause-worked : goal.returns-in-Some-clause-worked
returns-in-Some-clause-worked g c = λ calm h s.
    given_worked g.C.Charge.amount g.C.Charge.stamp (g.H.Handler.advice c.args.self.now.scribe.handler) h c.args.release (record c.args.release { left = c.take.new.self }) c.in-Some.charge c.give.new.self.work c.give.result s
    c.in-Some.ensures.order refl refl refl c.give.ensures.free c.give.ensures.waits

pub returns-in-None-clause-worked : goal.returns-in-None-clause-worked
returns-in-None-clause-worked g c = λ calm h s.
    done_worked g.C.Charge.amount g.C.Charge.stamp (g.H.Handler.advice c.args.self.now.scribe.handler) h c.args.release c.new-kept.result.items c.args.self.now.work c.answer_of.result s
    (c.in-None.ensures.none refl) c.requires.empty c.new-kept.ensures.items (c.answer_of.ensures.calm calm)

pub returns-in-None-clause-turned : goal.returns-in-None-clause-turned
returns-in-None-clause-turned g c =
    done_turned g.C.Charge.amount g.C.Charge.stamp c.args.release.core c.args.release.advice c.args.release.frees.items c.new-kept.result.items _ c.args.self.now.calm c.args.self.now.work c.answer_of.result
    c.requires.empty c.new-kept.ensures.items (c.in-None.ensures.none refl) c.answer_of.ensures.calm c.answer_of.ensures.drained

pub returns-in-Some-clause-turned : goal.returns-in-Some-clause-turned
returns-in-Some-clause-turned g c =
    given_turned g.C.Charge.amount g.C.Charge.stamp c.args.release.core c.args.release.frees.items _ c.args.self.now.calm (record c.args.release { left = c.take.new.self }) c.in-Some.charge c.give.new.self.work c.give.result
    c.in-Some.ensures.order refl refl c.give.ensures.free c.give.ensures.waits
