use Rattle.std.specs.Prelude.{ℕ}
use Rattle.scap_world.specs.declared.on_disk.source.FileSource.{FileSource}

-- how many reads of it have failed
abbrev pub failed_reads : FileSource → ℕ
failed_reads source = source.faults
