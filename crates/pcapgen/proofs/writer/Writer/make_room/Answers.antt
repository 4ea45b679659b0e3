use Rattle.pcapgen.proofs.WritingLemmas.{flushed, flush_failed}
use Rattle.pcapgen.proofs.writer.Writer.make_room.Goals as goal

pub returns-clause-same : goal.returns-clause-same
returns-clause-same g c = flushed c.flush.result (g.K.Sink.held c.args.sink.now) (g.K.Sink.held c.flush.new.sink) c.args.self.now.generator c.flush.new.self.generator
    c.args.self.now.waiting.items c.flush.new.self.waiting.items c.flush.ensures.held c.flush.ensures.empty c.flush.ensures.generator

pub returns-clause-err : goal.returns-clause-err
returns-clause-err g c = flush_failed c.flush.result (g.K.Sink.held c.args.sink.now) (g.K.Sink.held c.flush.new.sink) c.args.self.now.generator
    c.args.self.now.waiting.items c.flush.ensures.err
