-- Cutoffs, and classes of conversations.
use Rattle.std.specs.Prelude.{ℕ, List, [], ◌∷◌, Option, Some, None}
use Rattle.std.specs.List.{find}
use Rattle.capfilter.specs.Truth.{truth}
use Rattle.streamkey.specs.declared.key.Key.{Key}
use Rattle.streamkey.specs.declared.toward.Toward.{Toward}
use Rattle.cutclass.specs.declared.class_rule.ClassRule.{ClassRule}
use Rattle.cutclass.specs.declared.cut.Cut.{Cut}
use Rattle.cutclass.specs.declared.cut.Cut.TheVariants.{Unset, Endless, At}

-- what a class gives a conversation
pub record Class : Type 0 where
  pub priority : ℕ
  pub cutoff : Cut

-- the cutoff in force: the first that is set
abbrev pub first_set : List Cut → Option ℕ
first_set [] = None
first_set (Unset ∷ cuts) = first_set cuts
first_set (Endless ∷ cuts) = None
first_set (At position ∷ cuts) = Some position

-- the class of a packet: the first whose filter holds
abbrev pub first_class : List ClassRule → Key → Toward → Option ClassRule
first_class rules key toward = find (λ rule. truth rule.filter key toward) rules
