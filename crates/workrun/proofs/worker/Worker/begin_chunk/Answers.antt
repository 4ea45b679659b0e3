use Rattle.std.proofs.Common.{ap}
use Rattle.workrun.specs.declared.scribe.Scribe.{Scribe}
use Rattle.workrun.proofs.TurnLemmas.{cause_stays}
use Rattle.workrun.proofs.worker.Worker.begin_chunk.Goals as goal

pub returns-in-Err-clause-cause : goal.returns-in-Err-clause-cause
returns-in-Err-clause-cause g c =
    cause_stays (g.K.Sink.faults c.args.self.now.scribe.sink) (g.K.Sink.faults c.tell_chunk.new.scribe.sink) (g.K.Sink.faults c.stay.new.self.scribe.sink) c.in-Err.fault
    c.in-Err.ensures.cause (ap (λ (s : Scribe g.row.H.Denot g.row.K.Denot). g.K.Sink.faults s.sink) c.stay.ensures.2)
