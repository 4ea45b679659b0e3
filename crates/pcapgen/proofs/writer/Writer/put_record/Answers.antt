use Rattle.pcapgen.proofs.WritingLemmas.{none_made}
use Rattle.pcapgen.proofs.writer.Writer.put_record.Goals as goal

pub returns-in-Err-clause-err : goal.returns-in-Err-clause-err
returns-in-Err-clause-err g c = none_made (g.K.Sink.held c.args.sink.now) (g.K.Sink.held c.make_room.new.sink) c.args.self.now.generator c.make_room.new.self.generator
    c.args.self.now.waiting.items c.make_room.new.self.waiting.items c.in_ok-make_room.ensures.same
