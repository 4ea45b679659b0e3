-- The settings of streams.
use Rattle.std.specs.Prelude.{ℕ, Option}
use Rattle.overpolicy.specs.declared.mode.Mode.{Mode}
use Rattle.overpolicy.specs.declared.policy.Policy.{Policy}
use Rattle.cutclass.specs.declared.cut.Cut.{Cut}
use Rattle.cutclass.specs.InForce.{Class}
use Rattle.streamkey.specs.declared.key.Key.{Key}
use Rattle.streamkey.specs.declared.toward.Toward.{Toward}
use Rattle.streamdefs.specs.Both.{Both}
use Rattle.streamdefs.specs.Marks.{Marks}

-- The settings of streams. Lengths are bytes and times are nanoseconds; the class of a conversation is that of its key and
-- of the way of its first packet.
pub record Terms : Type 0 where
  pub mode : Mode
  pub policy : Policy
  pub chunk : ℕ
  pub overlap : ℕ
  pub flush : ℕ
  pub hole : ℕ
  pub reorder : ℕ
  pub idle : ℕ
  pub default : Cut
  pub cutoffs : Both Cut
  pub class : Key → Toward → Option Class
  pub marks : Marks
