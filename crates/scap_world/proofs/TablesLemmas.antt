use Rattle.std.proofs.Common.{◌≡◌, ◌≢◌, ℕ, zero, suc, ◌+◌, ◌<◌, List, [], ◌∷◌, ◌++◌, length, get_or, set, refl, ap, sym, ◌∙◌, Bool, true, false, cond, arith, subst}
use Rattle.std.specs.Str.{bytes_eq}
use Rattle.std.specs.List.{position_from}
use Rattle.std.specs.Prelude.{Option, Some, None, MatchOption, IsSome, is_some}
use Rattle.std.proofs.lemmas.Slice.Eq.{bytes_eq-Decides}
use Rattle.scap_world.specs.Tables.{is_named, value_of, with_value, IsFirst}

pub same_name : (a b : List ℕ) → bytes_eq a b ≡ true → a ≡ b
same_name a b h = (bytes_eq-Decides a b).0 h

pub other_name : (a b : List ℕ) → (a ≡ b → ⊥) → bytes_eq a b ≡ false
other_name a b h = elim (bytes_eq a b) as (λ v. (v ≡ true → a ≡ b) → v ≡ false) [ true ↦ λ d. absurd (h (d refl)) | false ↦ λ d. refl ] (bytes_eq-Decides a b).0

own_name : (a : List ℕ) → bytes_eq a a ≡ true
own_name a = (bytes_eq-Decides a a).1 refl

pub value_of-with_value : {V : Type 0} (entries : List (List ℕ × V)) (name : List ℕ) (value : V) → value_of (with_value name value entries) name ≡ Some value
value_of-with_value {V} [] name value = ap (λ (b : Bool). cond b (Some value) None) (own_name name)
value_of-with_value {V} (e ∷ es) name value =
    elim (bytes_eq e.0 name) as (λ v. bytes_eq e.0 name ≡ v → value_of (cond v ((name, value) ∷ es) (e ∷ with_value name value es)) name ≡ Some value) [
      | true ↦ λ q. ap (λ (b : Bool). cond b (Some value) (value_of es name)) (own_name name)
      | false ↦ λ q. rw q (value_of-with_value es name value)
    ] refl

pub value_of-with_value_other : {V : Type 0} (entries : List (List ℕ × V)) (name : List ℕ) (value : V) (other : List ℕ) → other ≢ name
    → value_of (with_value name value entries) other ≡ value_of entries other
value_of-with_value_other {V} [] name value other ne = ap (λ (b : Bool). cond b (Some value) None) (other_name _ _ (λ q. ne (sym q)))
value_of-with_value_other {V} (e ∷ es) name value other ne =
    elim (bytes_eq e.0 name) as (λ v. bytes_eq e.0 name ≡ v → value_of (cond v ((name, value) ∷ es) (e ∷ with_value name value es)) other ≡ cond (bytes_eq e.0 other) (Some e.1) (value_of es other)) [
      | true ↦ λ q. ap (λ (b : Bool). cond b (Some value) (value_of es other)) (other_name _ _ (λ r. ne (sym r)))
          ∙ sym (ap (λ (b : Bool). cond b (Some e.1) (value_of es other)) (other_name _ _ (λ r. ne (sym r ∙ same_name _ _ q))))
      | false ↦ λ q. ap (λ r. cond (bytes_eq e.0 other) (Some e.1) r) (value_of-with_value_other es name value other ne)
    ] refl

pub with_value-with_value : {V : Type 0} (entries : List (List ℕ × V)) (name : List ℕ) (first second : V) → with_value name second (with_value name first entries) ≡ with_value name second entries
with_value-with_value {V} [] name first second = ap (λ (b : Bool). cond b ((name, second) ∷ []) ((name, first) ∷ (name, second) ∷ [])) (own_name name)
with_value-with_value {V} (e ∷ es) name first second =
    elim (bytes_eq e.0 name) as (λ v. bytes_eq e.0 name ≡ v → with_value name second (cond v ((name, first) ∷ es) (e ∷ with_value name first es)) ≡ cond v ((name, second) ∷ es) (e ∷ with_value name second es)) [
      | true ↦ λ q. ap (λ (b : Bool). cond b ((name, second) ∷ es) ((name, first) ∷ with_value name second es)) (own_name name)
      | false ↦ λ q. rw q (ap (λ r. e ∷ r) (with_value-with_value es name first second))
    ] refl

pub value_of-first : {V : Type 0} (entries : List (List ℕ × V)) (i : ℕ) (name : List ℕ) (d : List ℕ × V) → IsFirst entries i name → value_of entries name ≡ Some (get_or entries i d).1
value_of-first {V} [] i name d h = absurd h
value_of-first {V} (e ∷ es) zero name d h = rw h refl
value_of-first {V} (e ∷ es) (suc i) name d h = rw (h.0) (value_of-first es i name d h.1)

pub with_value-absent : {V : Type 0} (entries : List (List ℕ × V)) (name : List ℕ) (value : V) → value_of entries name ≡ None → with_value name value entries ≡ entries ++ (name, value) ∷ []
with_value-absent {V} [] name value h = refl
with_value-absent {V} (e ∷ es) name value h =
    elim (bytes_eq e.0 name) as (λ v. cond v (Some e.1) (value_of es name) ≡ None → cond v ((name, value) ∷ es) (e ∷ with_value name value es) ≡ e ∷ (es ++ (name, value) ∷ [])) [
      | true ↦ λ q. absurd (some_not_none e.1 q)
      | false ↦ λ q. ap (λ r. e ∷ r) (with_value-absent es name value q)
    ] h
  where
    some_not_none : (x : V) → Some x ≡ None → ⊥
    some_not_none x q = cc

pub set-with_value : {V : Type 0} (entries : List (List ℕ × V)) (i : ℕ) (name : List ℕ) (value : V) (e d : List ℕ × V) → IsFirst entries i name
    → e.0 ≡ (get_or entries i d).0 → e.1 ≡ value → set entries i e ≡ with_value name value entries
set-with_value {V} [] i name value e d h k v = absurd h
set-with_value {V} (x ∷ xs) zero name value e d h k v =
    rw h (ap (λ n. (n, e.1) ∷ xs) (k ∙ same_name _ _ h) ∙ ap (λ w. (name, w) ∷ xs) v)
set-with_value {V} (x ∷ xs) (suc i) name value e d h k v = rw (h.0) (ap (λ r. x ∷ r) (set-with_value xs i name value e d h.1 k v))

pub there_first : {V : Type 0} (entries : List (List ℕ × V)) (i : ℕ) (name : List ℕ) → IsFirst entries i name → is_some (value_of entries name) ≡ true
there_first {V} [] i name h = absurd h
there_first {V} (e ∷ es) zero name h = rw h refl
there_first {V} (e ∷ es) (suc i) name h = rw (h.0) (there_first es i name h.1)

first_at : {V : Type 0} (entries : List (List ℕ × V)) (name : List ℕ) (n : ℕ) (found : Option ℕ) → position_from (is_named name) n entries ≡ found
    → MatchOption found (value_of entries name ≡ None) (λ i. (k : ℕ) × (i ≡ n + k) × (k < length entries) × IsFirst entries k name)
first_at {V} [] name n found e = let none : Option V = None in subst (λ (f : Option ℕ). MatchOption f (none ≡ None) (λ i. (k : ℕ) × (i ≡ n + k) × (k < 0) × ⊥)) e refl
first_at {V} (s ∷ ss) name n found e =
    elim (bytes_eq s.0 name) as (λ v. bytes_eq s.0 name ≡ v → cond v (Some n) (position_from (is_named name) (n + 1) ss) ≡ found
    → MatchOption found (value_of (s ∷ ss) name ≡ None) (λ i. (k : ℕ) × (i ≡ n + k) × (k < length (s ∷ ss)) × IsFirst (s ∷ ss) k name)) [
      | true ↦ λ q r. subst (λ (f : Option ℕ). MatchOption f (value_of (s ∷ ss) name ≡ None) (λ i. (k : ℕ) × (i ≡ n + k) × (k < length (s ∷ ss)) × IsFirst (s ∷ ss) k name)) r
          (0, omega arith, omega arith, q)
      | false ↦ λ q r. elim found as (λ f. MatchOption f (value_of ss name ≡ None) (λ i. (k : ℕ) × (i ≡ n + 1 + k) × (k < length ss) × IsFirst ss k name)
          → MatchOption f (value_of (s ∷ ss) name ≡ None) (λ i. (k : ℕ) × (i ≡ n + k) × (k < length (s ∷ ss)) × IsFirst (s ∷ ss) k name))
          [ None ↦ λ a. ap (λ (b : Bool). cond b (Some s.1) (value_of ss name)) q ∙ a | Some i ↦ λ a. (suc a.0, omega (arith, a.1), omega (arith, a.2), (q, a.3)) ]
          (first_at ss name (n + 1) found r)
    ] refl e

pub first_from_start : {V : Type 0} (entries : List (List ℕ × V)) (name : List ℕ) (found : Option ℕ) → found ≡ position_from (is_named name) 0 entries
    → MatchOption found (value_of entries name ≡ None) (λ i. (i < length entries) × IsFirst entries i name)
first_from_start {V} entries name found e =
    elim found as (λ f. MatchOption f (value_of entries name ≡ None) (λ i. (k : ℕ) × (i ≡ 0 + k) × (k < length entries) × IsFirst entries k name)
    → MatchOption f (value_of entries name ≡ None) (λ i. (i < length entries) × IsFirst entries i name)) [
      | None ↦ λ a. a
      | Some i ↦ λ a. let same : i ≡ a.0 = omega (arith, a.1) in subst (λ (k : ℕ). (k < length entries) × IsFirst entries k name) (sym same) (a.2, a.3)
    ]
    (first_at entries name 0 found (sym e))

pub found_first : {V : Type 0} (entries : List (List ℕ × V)) (name : List ℕ) (found : Option ℕ)
    → MatchOption found (value_of entries name ≡ None) (λ i. (i < length entries) × IsFirst entries i name) → is_some found ≡ is_some (value_of entries name)
found_first {V} entries name None h = sym (ap is_some h)
found_first {V} entries name (Some i) h = sym (there_first entries i name h.1)

-- a name that is there was found
pub there_is_found : {V : Type 0} (entries : List (List ℕ × V)) (name : List ℕ) → IsSome (value_of entries name) → value_of entries name ≡ None → ⊥
there_is_found {V} entries name there e = let P : Option V → Type 0 = IsSome in let none : P None = subst P e there in cc

pub not_found : {V : Type 0} (entries : List (List ℕ × V)) (name : List ℕ) → is_some (value_of entries name) ≡ false → value_of entries name ≡ None
not_found {V} entries name h = elim (value_of entries name) as (λ (o : Option V). is_some o ≡ false → o ≡ None) [ None ↦ λ q. refl | Some x ↦ λ q. cc ] h

-- a name that is not there gets its entry at the end
pub push-with_value : {V : Type 0} (entries pushed : List (List ℕ × V)) (name : List ℕ) (value : V) (e : List ℕ × V) → is_some (value_of entries name) ≡ false
    → e.0 ≡ name → e.1 ≡ value → pushed ≡ entries ++ e ∷ [] → pushed ≡ with_value name value entries
push-with_value {V} entries pushed name value e h n v p =
    p ∙ ap (λ (k : List ℕ). entries ++ (k, e.1) ∷ []) n ∙ ap (λ (w : V). entries ++ (name, w) ∷ []) v ∙ sym (with_value-absent entries name value (not_found entries name h))
