use Rattle.std.proofs.Common.{refl}
use Rattle.evring.specs.declared.event.Event.TheVariants.{Chunk}
use Rattle.workrun.specs.AtWork.{taken, with_advice}
use Rattle.workrun.proofs.StepLemmas.{begins, tells_on}
use Rattle.workrun.proofs.TurnLemmas.{kept_turned}
use Rattle.workrun.proofs.worker.Worker.heed.Goals as goal

pub returns-then-advice-clause-turned : goal.returns-then-advice-clause-turned
returns-then-advice-clause-turned g c =
    kept_turned g.C.Charge.amount g.C.Charge.stamp c.args.core c.args.advice c.args.frees.items c.args.kept.items c.push_reserved.new.self.items c.args.chunk c.args.self.now.work c.answer_of.result
    c.requires.empty c.requires.none c.push_reserved.ensures.items (c.answer_of.ensures.calm refl)

pub returns-clause-worked : goal.returns-clause-worked
returns-clause-worked g c = λ conv way key stated.
    tells_on g.C.Charge.amount g.C.Charge.stamp (g.H.Handler.advice c.args.self.now.scribe.handler) (taken c.args.core (Chunk conv way key c.args.kept.items c.args.chunk)) c.go_on.new.self.work c.go_on.result
    (c.go_on.ensures.worked c.requires.calm (with_advice (g.H.Handler.advice c.args.self.now.scribe.handler) (taken c.args.core (Chunk conv way key c.args.kept.items c.args.chunk)))
    (begins g.C.Charge.amount (g.H.Handler.advice c.args.self.now.scribe.handler) c.args.core (Chunk conv way key c.args.kept.items c.args.chunk)
    (record { core = c.args.core; advice = c.args.advice; frees = c.args.frees; left = c.of.result }) refl stated c.if-advice.false c.requires.none c.of.ensures))
