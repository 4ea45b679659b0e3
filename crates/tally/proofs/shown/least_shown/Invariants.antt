use Rattle.std.proofs.Common.{take}
use Rattle.tally.specs.Walk.{shown_by, IsLeastShown}
use Rattle.tally.proofs.shown.least_shown.Given as goal

abbrev pub invariant-loop-look : goal.invariant-loop-look
invariant-loop-look l = IsLeastShown (shown_by l.before l.count) (take l.look-index l.looks) l.first
