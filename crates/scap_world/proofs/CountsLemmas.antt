use Rattle.std.proofs.Common.{◌≡◌, ◌≢◌, ℕ, List, refl, ap, sym, ◌∙◌, true, false, subst}
use Rattle.std.specs.Str.{bytes_eq}
use Rattle.std.specs.Prelude.{Option, IsSome, is_some, unwrap_or}
use Rattle.std.proofs.lemmas.Slice.Eq.{bytes_eq-Decides}
use Rattle.scap_world.proofs.TablesLemmas.{same_name, value_of-with_value, value_of-with_value_other, not_found}
use Rattle.scap_world.specs.Tables.{value_of, with_value, count_of}

-- a fact of each name is one of that name and one of the others
pub by_name : (P : List ℕ → Type 0) (name : List ℕ) → P name → ((other : List ℕ) → other ≢ name → P other) → (other : List ℕ) → P other
by_name P name own others other =
    elim (bytes_eq other name) as (λ b. bytes_eq other name ≡ b → P other) [
      | true ↦ λ q. subst P (sym (same_name _ _ q)) own
      | false ↦ λ q. others other (λ e. true_not_false (sym ((bytes_eq-Decides other name).1 e) ∙ q))
    ] refl
  where
    true_not_false : true ≡ false → ⊥
    true_not_false e = cc

pub there-with_value : {V : Type 0} (old new : List (List ℕ × V)) (name : List ℕ) (value : V) → new ≡ with_value name value old → IsSome (value_of new name)
there-with_value {V} old new name value e = let P : Option V → Type 0 = IsSome in
    subst P (sym (ap (λ (t : List (List ℕ × V)). value_of t name) e ∙ value_of-with_value old name value)) refl

-- no name is lost by a value that is put
pub keeps_names : {V : Type 0} (old new : List (List ℕ × V)) (name : List ℕ) (value : V) → new ≡ with_value name value old
    → (other : List ℕ) → IsSome (value_of old other) → IsSome (value_of new other)
keeps_names {V} old new name value e =
    by_name (λ o. IsSome (value_of old o) → IsSome (value_of new o)) name (λ _. there-with_value old new name value e)
    (λ o ne h. let P : Option V → Type 0 = IsSome in subst P (sym (ap (λ (t : List (List ℕ × V)). value_of t o) e ∙ value_of-with_value_other old name value o ne)) h)

pub count_of-with_value : (old new : List (List ℕ × ℕ)) (name : List ℕ) (n : ℕ) → new ≡ with_value name n old → count_of new name ≡ n
count_of-with_value old new name n e = ap (λ (t : List (List ℕ × ℕ)). count_of t name) e ∙ ap (λ (o : Option ℕ). unwrap_or o 0) (value_of-with_value old name n)

pub count_of-with_value_other : (old new : List (List ℕ × ℕ)) (name : List ℕ) (n : ℕ) → new ≡ with_value name n old → (other : List ℕ) → other ≢ name → count_of new other ≡ count_of old other
count_of-with_value_other old new name n e other ne =
    ap (λ (t : List (List ℕ × ℕ)). count_of t other) e ∙ ap (λ (o : Option ℕ). unwrap_or o 0) (value_of-with_value_other old name n other ne)

-- a name that was never counted gets the count 0
pub count_of-admitted : (old new : List (List ℕ × ℕ)) (name : List ℕ) → is_some (value_of old name) ≡ false → new ≡ with_value name 0 old → (other : List ℕ) → count_of new other ≡ count_of old other
count_of-admitted old new name h e =
    by_name (λ o. count_of new o ≡ count_of old o) name
    (count_of-with_value old new name 0 e ∙ sym (ap (λ (o : Option ℕ). unwrap_or o 0) (not_found old name h)))
    (count_of-with_value_other old new name 0 e)
