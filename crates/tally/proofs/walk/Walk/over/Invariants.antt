use Rattle.tally.specs.Walk.{HasMade}
use Rattle.tally.proofs.walk.Walk.over.Given as goal

abbrev pub invariant-loop-next : goal.invariant-loop-next
invariant-loop-next l = HasMade l.initial.self.limit l.moves l.next-index l.self
