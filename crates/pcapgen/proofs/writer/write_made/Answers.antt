use Rattle.std.proofs.Common.{◌≡◌, ◌≤◌, arith}
use Rattle.std.proofs.lemmas.Result.{err_from_is_err_and}
use Rattle.pcapgen.proofs.WritingLemmas.{all_written, front_of_file, rest_failed}
use Rattle.pcapgen.proofs.writer.write_made.Goals as goal

pub returns-in_err-put_record-clause-err : goal.returns-in_err-put_record-clause-err
returns-in_err-put_record-clause-err g c =
    let p = err_from_is_err_and c.from_residual.result c.from_residual.ensures.1 in
    let few : c.loop-made.made ≤ c.args.count = omega (arith, c.loop-made-test.true) in
    rw (p.1) (front_of_file c.args.seed c.loop-made.made c.args.count (g.K.Sink.held c.args.sink.now) (g.K.Sink.held c.put_record.new.sink) few
    (c.in_err-put_record.ensures.err c.args.seed c.loop-made.made (g.K.Sink.held c.args.sink.now) c.loop-made.invariant.0))

pub returns-clause-ok : goal.returns-clause-ok
returns-clause-ok g c =
    let all : c.loop-made.made ≡ c.args.count = omega (arith, c.loop-made-test.false, c.loop-made.auto.made-end) in
    all_written c.flush.result c.args.seed c.loop-made.made c.args.count (g.K.Sink.held c.args.sink.now) (g.K.Sink.held c.loop-made.sink) (g.K.Sink.held c.flush.new.sink)
    c.loop-made.writer.generator c.loop-made.writer.waiting.items all c.loop-made.invariant.0 c.flush.ensures.held

pub returns-clause-err : goal.returns-clause-err
returns-clause-err g c =
    let all : c.loop-made.made ≡ c.args.count = omega (arith, c.loop-made-test.false, c.loop-made.auto.made-end) in
    rest_failed c.flush.result c.args.seed c.loop-made.made c.args.count (g.K.Sink.held c.args.sink.now) (g.K.Sink.held c.loop-made.sink) (g.K.Sink.held c.flush.new.sink)
    c.loop-made.writer.generator c.loop-made.writer.waiting.items all c.loop-made.invariant.0 c.flush.ensures.err
