use Rattle.std.specs.Prelude.{ℕ}
use Rattle.scap_world.specs.declared.on_disk.shelf.FileShelf.{FileShelf}

-- how often a call on any name has failed
abbrev pub fault_count : {R F : Type 0} → FileShelf R F → ℕ
fault_count shelf = shelf.faults

-- how many sources and sinks are out
abbrev pub open_count : {R F : Type 0} → FileShelf R F → ℕ
open_count shelf = shelf.open_files
