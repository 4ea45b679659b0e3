-- Steps of the index by moments: what it has (`has`), over the moment that each id has (`at`).
use Rattle.std.proofs.Common.{◌≡◌, ℕ, ◌<◌, ◌≤◌, Bool, true, false, cond, nat_eq, List, [], ◌∷◌, length, refl, ◌∙◌, ap, subst, arith, ⊎_elim}
use Rattle.std.specs.Prelude.{Option, None, Some, IsSome}
use Rattle.std.specs.List.{list_any}
use Rattle.std.specs.Ordering.{nat_cmp, is_eq, is_gt}
use Rattle.std.proofs.lemmas.Bool.{cases_eq}
use Rattle.std.proofs.lemmas.Bool.Decides.{nat_tests}
use Rattle.deadlines.specs.Dues.{IsUpTo}
use Rattle.deadlines.specs.Order.{due_cmp, is_at_moment}

-- one id, and another
own : (k : ℕ) → is_eq (nat_cmp k k) ≡ true
own k = grind (arith, nat_tests)

other : (k i : ℕ) → (k ≡ i → ⊥) → is_eq (nat_cmp k i) ≡ false
other k i apart = grind (arith, nat_tests)

-- dues of one id are the same where their moments are, and dues of two ids never
due-own : (v m k : ℕ) → is_eq (due_cmp (v, k) (m, k)) ≡ nat_eq v m
due-own v m k = grind (arith, nat_tests)

due-other : (v m k i : ℕ) → (k ≡ i → ⊥) → is_eq (due_cmp (v, k) (m, i)) ≡ false
due-other v m k i apart = grind (arith, nat_tests)

-- a due that is not greater is up to the other
pub up_to : (a b : ℕ × ℕ) → is_gt (due_cmp a b) ≡ false → IsUpTo a b
up_to a b h = grind (arith, nat_tests)

-- what is not before a due that has not come has not come
pub later : (now : ℕ) (a b : ℕ × ℕ) → now < a.0 → IsUpTo a b → now < b.0
later now a b h upto = ⊎_elim (λ (l : a.0 < b.0). omega arith) (λ (e : (a.0 ≡ b.0) × (a.1 ≤ b.1)). let f : a.0 ≡ b.0 = e.0 in omega arith) upto

pub at_moment : (o : Option ℕ) (m : ℕ) → is_at_moment o m ≡ true → o ≡ Some m
at_moment None m h = grind arith
at_moment (Some own) m h = grind (arith, nat_tests)

pub moment-own : (m : ℕ) → nat_eq m m ≡ true
moment-own m = grind (arith, nat_tests)

pub none_is_some : {X : Type 0} (o : Option X) → o ≡ None → IsSome o → ⊥
none_is_some None e h = grind arith
none_is_some (Some x) e h = grind arith

pub has-none : {K : Type 0} (test : K → Bool) (keys : List K) → (0 < length keys → ⊥) → list_any test keys ≡ false
has-none test [] empty = refl
has-none test (key ∷ keys) empty = absurd (empty (omega arith))

-- what goes, what comes, and what comes in place of what goes
gone : (b : Bool) → cond b false b ≡ false
gone true = refl
gone false = refl

come : (b : Bool) → cond b true false ≡ b
come true = refl
come false = refl

stays : (b : Bool) → cond b true b ≡ b
stays true = refl
stays false = refl

back : (b : Bool) → cond b false (cond b true false) ≡ false
back true = refl
back false = refl

placed : (w v m : ℕ) → (w ≡ v → ⊥) → cond (nat_eq w m) false (cond (nat_eq v m) true (nat_eq w m)) ≡ nat_eq v m
placed w v m apart = grind (arith, nat_tests)

module _ (has : ℕ → ℕ → Bool) (at : ℕ → Option ℕ) (is : (m i : ℕ) → has m i ≡ is_at_moment (at i) m) where
  -- at the id itself, and at each other
  by_id : (P : ℕ → Type 0) (k i : ℕ) → P k → ((k ≡ i → ⊥) → P i) → P i
  by_id P k i here there = ⊎_elim (λ e. subst P e here) there (cases_eq k i)

  has-at : (k m : ℕ) (o : Option ℕ) → at k ≡ o → has m k ≡ is_at_moment o m
  has-at k m o e = is m k ∙ ap (λ (p : Option ℕ). is_at_moment p m) e

  pub removed : (k v : ℕ) → at k ≡ Some v → (m i : ℕ)
      → cond (is_eq (due_cmp (v, k) (m, i))) false (has m i) ≡ is_at_moment (cond (is_eq (nat_cmp k i)) None (at i)) m
  removed k v e m i =
      by_id (λ j. cond (is_eq (due_cmp (v, k) (m, j))) false (has m j) ≡ is_at_moment (cond (is_eq (nat_cmp k j)) None (at j)) m) k i
      (rw (due-own v m k, own k, has-at k m (Some v) e) (gone (nat_eq v m)))
      (λ apart. rw (due-other v m k i apart, other k i apart) (is m i))

  pub added : (k v : ℕ) → at k ≡ None → (m i : ℕ)
      → cond (is_eq (due_cmp (v, k) (m, i))) true (has m i) ≡ is_at_moment (cond (is_eq (nat_cmp k i)) (Some v) (at i)) m
  added k v e m i =
      by_id (λ j. cond (is_eq (due_cmp (v, k) (m, j))) true (has m j) ≡ is_at_moment (cond (is_eq (nat_cmp k j)) (Some v) (at j)) m) k i
      (rw (due-own v m k, own k, has-at k m None e) (come (nat_eq v m)))
      (λ apart. rw (due-other v m k i apart, other k i apart) (is m i))

  pub again : (k v w : ℕ) → at k ≡ Some w → w ≡ v → (m i : ℕ)
      → cond (is_eq (due_cmp (v, k) (m, i))) true (has m i) ≡ is_at_moment (cond (is_eq (nat_cmp k i)) (Some v) (at i)) m
  again k v w e same m i =
      by_id (λ j. cond (is_eq (due_cmp (v, k) (m, j))) true (has m j) ≡ is_at_moment (cond (is_eq (nat_cmp k j)) (Some v) (at j)) m) k i
      (rw (due-own v m k, own k, has-at k m (Some w) e, same) (stays (nat_eq v m)))
      (λ apart. rw (due-other v m k i apart, other k i apart) (is m i))

  pub moved : (k v w : ℕ) → at k ≡ Some w → (w ≡ v → ⊥) → (m i : ℕ)
      → cond (is_eq (due_cmp (w, k) (m, i))) false (cond (is_eq (due_cmp (v, k) (m, i))) true (has m i)) ≡ is_at_moment (cond (is_eq (nat_cmp k i)) (Some v) (at i)) m
  moved k v w e differ m i =
      by_id (λ j. cond (is_eq (due_cmp (w, k) (m, j))) false (cond (is_eq (due_cmp (v, k) (m, j))) true (has m j)) ≡ is_at_moment (cond (is_eq (nat_cmp k j)) (Some v) (at j)) m) k i
      (rw (due-own v m k, due-own w m k, own k, has-at k m (Some w) e) (placed w v m differ))
      (λ apart. rw (due-other v m k i apart, due-other w m k i apart, other k i apart) (is m i))

  pub given_back : (k v : ℕ) → at k ≡ None → (m i : ℕ)
      → cond (is_eq (due_cmp (v, k) (m, i))) false (cond (is_eq (due_cmp (v, k) (m, i))) true (has m i)) ≡ is_at_moment (at i) m
  given_back k v e m i =
      by_id (λ j. cond (is_eq (due_cmp (v, k) (m, j))) false (cond (is_eq (due_cmp (v, k) (m, j))) true (has m j)) ≡ is_at_moment (at j) m) k i
      (rw (due-own v m k, has-at k m None e, e) (back (nat_eq v m)))
      (λ apart. rw (due-other v m k i apart) (is m i))
