use Rattle.std.specs.Prelude.{ℕ, List}
use Rattle.scap_world.specs.Plans.{CallsMade}
use Rattle.scap_world.specs.declared.in_memory.sink.MemSink.{MemSink}

-- the bytes that a sink holds
abbrev pub held_of : MemSink → List ℕ
held_of sink = sink.bytes.items

-- how many bytes one write takes at most
abbrev pub piece_of : MemSink → ℕ
piece_of sink = sink.most

-- the writes made on it
abbrev pub writes_of : MemSink → CallsMade
writes_of sink = sink.calls
