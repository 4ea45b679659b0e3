use Rattle.std.proofs.Common.{◌≡◌, ◌≢◌, ℕ, zero, suc, ◌<◌, ◌≤◌, List, [], ◌∷◌, length, refl, ap, sym, ◌∙◌, Bool, true, false, cond, arith, subst, ◌⊎◌, inl, inr}
use Rattle.std.specs.Str.{bytes_eq}
use Rattle.std.specs.Prelude.{Result, Ok, Err, OnOk, OnErr, IsSome, Option}
use Rattle.scap_world.proofs.CountsLemmas.{by_name}
use Rattle.scap_world.proofs.TablesLemmas.{same_name, other_name, value_of-with_value_other}
use Rattle.scap_world.specs.Files.{File}
use Rattle.scap_world.specs.MemShelf.{number_at}
use Rattle.scap_world.specs.Tables.{value_of, with_value, Covers, IsFirst}

-- a table into which a value was put, or that is as it was for want of memory
abbrev pub Puts : {V : Type 0} → List ℕ → V → List (List ℕ × V) → List (List ℕ × V) → Type 0
Puts name value old new = (new ≡ with_value name value old) ⊎ (new ≡ old)

pub puts_by : {V E : Type 0} (name : List ℕ) (value : V) (old new : List (List ℕ × V)) (r : Result (Unit {0}) E)
    → OnOk r (new ≡ with_value name value old) → OnErr r (new ≡ old) → Puts name value old new
puts_by {V} {E} name value old new (Ok x) ok err = inl ok
puts_by {V} {E} name value old new (Err e) ok err = inr err

length-with_value : {V : Type 0} (entries : List (List ℕ × V)) (name : List ℕ) (value : V) → length entries ≤ length (with_value name value entries)
length-with_value {V} [] name value = omega arith
length-with_value {V} (e ∷ es) name value =
    elim (bytes_eq e.0 name) as (λ b. length (e ∷ es) ≤ length (cond b ((name, value) ∷ es) (e ∷ with_value name value es)))
    [ true ↦ omega arith | false ↦ omega (arith, length-with_value es name value) ]

pub longer : {V : Type 0} (name : List ℕ) (value : V) (old new : List (List ℕ × V)) → Puts name value old new → length old ≤ length new
longer {V} name value old new (inl e) = omega (arith, ap length e, length-with_value old name value)
longer {V} name value old new (inr e) = omega (arith, ap length e)

-- the counts have room for each file as before, and for the new one
pub covers_more : {V W : Type 0} (name : List ℕ) (value : V) (old new : List (List ℕ × V)) (counts : List (List ℕ × W)) → Puts name value old new
    → Covers old counts → IsSome (value_of counts name) → Covers new counts
covers_more {V} {W} name value old new counts (inl e) covers room =
    by_name (λ o. IsSome (value_of new o) → IsSome (value_of counts o)) name (λ _. room)
    (λ o ne h. let P : Option V → Type 0 = IsSome in covers o (subst P (ap (λ (t : List (List ℕ × V)). value_of t o) e ∙ value_of-with_value_other old name value o ne) h))
covers_more {V} {W} name value old new counts (inr e) covers room =
    λ o h. let P : Option V → Type 0 = IsSome in covers o (subst P (ap (λ (t : List (List ℕ × V)). value_of t o) e) h)

pub number_at_none : (files : List File) (i : ℕ) (name : List ℕ) → number_at files i 0 name ≡ 0
number_at_none [] i name = refl
number_at_none (f ∷ fs) zero name = let z : ℕ = 0 in elim (bytes_eq f.0 name) as (λ b. cond b z z ≡ z) [ true ↦ refl | false ↦ refl ]
number_at_none (f ∷ fs) (suc i) name = number_at_none fs i name

number_at-with_value : (files : List File) (name bytes : List ℕ) (i n : ℕ) (other : List ℕ) → i < length files → number_at (with_value name bytes files) i n other ≡ number_at files i n other
number_at-with_value [] name bytes i n other h = absurd (omega arith)
number_at-with_value (f ∷ fs) name bytes i n other h =
    elim (bytes_eq f.0 name) as (λ b. bytes_eq f.0 name ≡ b → number_at (cond b ((name, bytes) ∷ fs) (f ∷ with_value name bytes fs)) i n other ≡ number_at (f ∷ fs) i n other) [
      | true ↦ λ q. elim i as (λ k. number_at ((name, bytes) ∷ fs) k n other ≡ number_at (f ∷ fs) k n other)
          [ zero ↦ ap (λ (m : List ℕ). cond (bytes_eq m other) n 0) (sym (same_name _ _ q)) | suc k ↦ refl ]
      | false ↦ λ q. elim i as (λ k. k < length (f ∷ fs) → number_at (f ∷ with_value name bytes fs) k n other ≡ number_at (f ∷ fs) k n other)
          [ zero ↦ λ _. refl | suc k ↦ λ l. number_at-with_value fs name bytes k n other (omega arith) ] h
    ] refl

-- what was taken from the file of an index is told after a file was put as before
pub number_at-puts : (name bytes : List ℕ) (old new : List File) → Puts name bytes old new → (i n : ℕ) → (0 < n → i < length old)
    → (other : List ℕ) → number_at new i n other ≡ number_at old i n other
number_at-puts name bytes old new (inl e) i zero within other = number_at_none new i other ∙ sym (number_at_none old i other)
number_at-puts name bytes old new (inl e) i (suc n) within other =
    ap (λ (t : List File). number_at t i (suc n) other) e ∙ number_at-with_value old name bytes i (suc n) other (within (omega arith))
number_at-puts name bytes old new (inr e) i n within other = ap (λ (t : List File). number_at t i n other) e

pub number_at-first : (files : List File) (i n : ℕ) (name : List ℕ) → IsFirst files i name → number_at files i n name ≡ n
number_at-first [] i n name h = absurd h
number_at-first (f ∷ fs) zero n name h = rw h refl
number_at-first (f ∷ fs) (suc i) n name h = number_at-first fs i n name h.1

pub number_at-other : (files : List File) (i n : ℕ) (name : List ℕ) → IsFirst files i name → (other : List ℕ) → other ≢ name → number_at files i n other ≡ 0
number_at-other [] i n name h other ne = absurd h
number_at-other (f ∷ fs) zero n name h other ne = ap (λ (b : Bool). cond b n 0) (other_name _ _ (λ q. ne (sym q ∙ same_name _ _ h)))
number_at-other (f ∷ fs) (suc i) n name h other ne = number_at-other fs i n name h.1 other ne

-- no other file changes
pub others_keep : {V : Type 0} (name : List ℕ) (value : V) (old new : List (List ℕ × V)) → Puts name value old new
    → (other : List ℕ) → other ≢ name → value_of new other ≡ value_of old other
others_keep {V} name value old new (inl e) other ne = ap (λ (t : List (List ℕ × V)). value_of t other) e ∙ value_of-with_value_other old name value other ne
others_keep {V} name value old new (inr e) other ne = ap (λ (t : List (List ℕ × V)). value_of t other) e
