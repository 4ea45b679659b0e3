-- The charges that are still to go out.
use Rattle.std.specs.Prelude.{List, [], ◌++◌, drop, Option, Some, None}
use Rattle.chunkpart.specs.ChunkParts.{ChunkParts}
use Rattle.evring.specs.Charges.{charges_of, charges_of_all}
use Rattle.workrun.specs.declared.outgoing.Outgoing.{Outgoing}

-- those of a chunk that may be missing
abbrev pub charges_of_own : {C : Type 0} → Option (ChunkParts C) → List C
charges_of_own None = []
charges_of_own (Some chunk) = charges_of chunk

-- those of the kept chunks that are left, then those of the event's own chunk
abbrev pub charges_left : {C : Type 0} → Outgoing C → List C
charges_left o = charges_of_all (drop o.at o.kept.items) ++ charges_of_own o.own
