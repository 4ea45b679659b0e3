use Rattle.std.specs.Prelude.{ℕ, zero, suc, ◌≡◌, List, [], ◌∷◌, Bool, true, false, Option, Some, None, IsSome, unwrap_or, if◌then◌else◌}
use Rattle.std.specs.Str.{bytes_eq}

-- a table is a list of names, each with its value, in the order in which the names came

-- whether an entry has that name
abbrev pub is_named : {V : Type 0} → List ℕ → List ℕ × V → Bool
is_named name entry = bytes_eq entry.0 name

-- the value of the first entry of that name
abbrev pub value_of : {V : Type 0} → List (List ℕ × V) → List ℕ → Option V
value_of [] name = None
value_of (entry ∷ entries) name = if bytes_eq entry.0 name then Some entry.1 else value_of entries name

-- the table with that value in the place of the first of its name, or at the end
abbrev pub with_value : {V : Type 0} → List ℕ → V → List (List ℕ × V) → List (List ℕ × V)
with_value name value [] = (name, value) ∷ []
with_value name value (entry ∷ entries) =
    if bytes_eq entry.0 name then (name, value) ∷ entries else entry ∷ with_value name value entries

-- the entry of that index is the first of that name
abbrev pub IsFirst : {V : Type 0} → List (List ℕ × V) → ℕ → List ℕ → Type 0
IsFirst [] i name = ⊥
IsFirst (entry ∷ entries) zero name = bytes_eq entry.0 name ≡ true
IsFirst (entry ∷ entries) (suc i) name = (bytes_eq entry.0 name ≡ false) × IsFirst entries i name

-- how often a name was counted: never, where it is not in the table
abbrev pub count_of : List (List ℕ × ℕ) → List ℕ → ℕ
count_of counts name = unwrap_or (value_of counts name) 0

-- each name of the one table is in the other
abbrev pub Covers : {V W : Type 0} → List (List ℕ × V) → List (List ℕ × W) → Type 0
Covers named counts = (name : List ℕ) → IsSome (value_of named name) → IsSome (value_of counts name)
