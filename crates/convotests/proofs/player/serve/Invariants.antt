use Rattle.std.proofs.Common.{◌≡◌, []}
use Rattle.convo.specs.Going.{charges_going}
use Rattle.convo.specs.Standing.{IsAskWithin, IsRest, asked_of, last_of}
use Rattle.convo.specs.Talk.{asked_in}
use Rattle.convotests.proofs.player.serve.Given as goal

abbrev pub invariant-lines : goal.invariant-lines
invariant-lines l =
    (asked_of l.convo ≡ asked_in l.want) × IsAskWithin l.set.marks.limit l.want × (IsRest l.want → charges_going l.convo.going ≡ [])
    × (l.budget.limit ≡ l.fn.budget.limit) × (last_of l.convo ≡ last_of l.fn.convo)
