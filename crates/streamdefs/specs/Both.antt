-- One thing for each direction of a conversation.
use Rattle.std.specs.Prelude.{Bool, true, false}
use Rattle.evring.specs.declared.way.Way.{Way}
use Rattle.evring.specs.declared.way.Way.TheVariants.{Fore, Back}

-- one for the direction of the first packet, and one for the other
pub record Both (X : Type 0) : Type 0 where
  pub fore : X
  pub back : X

-- that of a direction
abbrev pub of_way : {X : Type 0} → Way → Both X → X
of_way Fore b = b.fore
of_way Back b = b.back

-- the same with another one for a direction
abbrev pub with_way : {X : Type 0} → Way → X → Both X → Both X
with_way Fore x b = record { fore = x; back = b.back }
with_way Back x b = record { fore = b.fore; back = x }

-- one for both directions
abbrev pub both : {X : Type 0} → X → Both X
both x = record { fore = x; back = x }

-- whether two directions are the same
abbrev pub same_way : Way → Way → Bool
same_way Fore Fore = true
same_way Back Back = true
same_way Fore Back = false
same_way Back Fore = false
