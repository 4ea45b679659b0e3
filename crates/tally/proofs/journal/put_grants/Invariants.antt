use Rattle.std.proofs.Common.{◌≡◌, ◌++◌, take}
use Rattle.std.specs.Prelude.{flat_map}
use Rattle.tally.specs.Journal.{grant_in}
use Rattle.tally.proofs.journal.put_grants.Given as goal

abbrev pub invariant-loop-look : goal.invariant-loop-look
invariant-loop-look l = l.moves.items ≡ l.initial.moves.items ++ flat_map grant_in (take l.look-index l.looks)
