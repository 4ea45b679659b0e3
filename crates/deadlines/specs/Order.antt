-- The index by moments.
use Rattle.std.specs.Prelude.{◌≡◌, ℕ, Bool, false, nat_eq, Option, None, Some}
use Rattle.std.specs.declared.cmp.Ordering.{Ordering}
use Rattle.std.specs.Ordering.{nat_cmp, ordering_then}
use Rattle.std.specs.BTreeMap.{BTreeMap, get}
use Rattle.std.specs.BTreeSet.{BTreeSet, contains}

-- by the moment, then by the id
abbrev pub due_cmp : ℕ × ℕ → ℕ × ℕ → Ordering
due_cmp a b = ordering_then (nat_cmp a.0 b.0) (nat_cmp a.1 b.1)

abbrev pub is_at_moment : Option ℕ → ℕ → Bool
is_at_moment None moment = false
is_at_moment (Some own) moment = nat_eq own moment

-- the index has each id once, at its moment
abbrev pub AreInOrder : BTreeMap ℕ ℕ → BTreeSet (ℕ × ℕ) → Type 0
AreInOrder moments order = (moment id : ℕ) → contains due_cmp order (moment, id) ≡ is_at_moment (get nat_cmp moments id) moment
