use Rattle.std.proofs.Common.{◌≡◌, ◌≤◌}
use Rattle.pcapgen.specs.Writing.{Reaches}
use Rattle.pcapgen.proofs.writer.write_made.Given as goal

abbrev pub invariant-loop-made : goal.invariant-loop-made
invariant-loop-made g l =
    Reaches l.seed l.made (g.K.Sink.held l.initial.sink) (g.K.Sink.held l.sink) l.writer.generator l.writer.waiting.items
    × (l.writer.generator.number ≡ l.made)
    × (g.K.Sink.faults l.initial.sink ≤ g.K.Sink.faults l.sink)
