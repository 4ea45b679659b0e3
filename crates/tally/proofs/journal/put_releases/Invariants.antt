use Rattle.std.proofs.Common.{◌≡◌, ◌++◌, take}
use Rattle.std.specs.Prelude.{flat_map}
use Rattle.tally.specs.Journal.{release_in}
use Rattle.tally.proofs.journal.put_releases.Given as goal

abbrev pub invariant-loop-free : goal.invariant-loop-free
invariant-loop-free l = l.moves.items ≡ l.initial.moves.items ++ flat_map release_in (take l.free-index l.frees)
