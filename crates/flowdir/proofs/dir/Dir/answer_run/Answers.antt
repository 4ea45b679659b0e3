use Rattle.std.proofs.Common.{subst}
use Rattle.flowdir.specs.Kept.{cuts_for, IsRunning, AsksNext}
use Rattle.flowdir.proofs.Answering.{if_ok}
use Rattle.flowdir.proofs.Lefts.{run_lowers}
use Rattle.flowdir.proofs.dir.Dir.answer_run.Goals as goal

pub returns-clause-left : goal.returns-clause-left
returns-clause-left g c =
    if_ok c.ask_next.result _ _ (λ step n.
    run_lowers c.args.granted (cuts_for c.args.shape.now.chunk c.args.shape.now.overlap) c.args.shape.now.reorder c.args.self.now c.ask_next.new.self step c.requires.running
    (subst (λ k. IsRunning k.work) c.in_ok-answer.ensures.ok c.in_ok-answer.ensures.running) c.requires.asked
    (subst (λ k. AsksNext (cuts_for c.args.shape.now.chunk c.args.shape.now.overlap) c.args.shape.now.reorder k c.ask_next.new.self step) c.in_ok-answer.ensures.ok n)) c.ask_next.ensures.asks
