use Rattle.std.specs.Prelude.{ℕ}
use Rattle.scap_world.specs.declared.on_disk.sink.FileSink.{FileSink}

-- how many writes of it have failed
abbrev pub failed_writes : FileSink → ℕ
failed_writes sink = sink.faults
