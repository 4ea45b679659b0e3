use Rattle.std.proofs.Common.{◌≡◌, ◌≤◌, [], None}
use Rattle.convo.specs.Going.{charges_going}
use Rattle.convo.specs.Standing.{asked_of, last_of}
use Rattle.convotests.proofs.player.play.Given as goal

abbrev pub invariant-turns : goal.invariant-turns
invariant-turns l = (asked_of l.convo ≡ None) × (charges_going l.convo.going ≡ []) × (l.budget.limit ≡ l.set.marks.limit) × (last_of l.convo ≤ l.number)
