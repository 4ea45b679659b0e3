-- Which byte stays where segments overlap.
use Rattle.std.specs.Prelude.{Bool, true, false, cond, ℤ, int_lt, int_le}
use Rattle.overpolicy.specs.declared.policy.Policy.{Policy}
use Rattle.overpolicy.specs.declared.policy.Policy.TheVariants.{First, Last, Bsd, Linux}
use Rattle.overpolicy.specs.declared.side.Side.{Side}
use Rattle.overpolicy.specs.declared.side.Side.TheVariants.{Old, New}

-- whether a later segment's byte takes the place of a held one, by the starts of their segments
abbrev pub wins : Policy → ℤ → ℤ → Bool
wins First old new = false
wins Last old new = true
wins Bsd old new = int_lt new old
wins Linux old new = int_le new old

-- whose byte stays
abbrev pub winner_of : Policy → ℤ → ℤ → Side
winner_of policy old new = cond (wins policy old new) New Old
