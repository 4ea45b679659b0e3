-- Sums below a stamp are sums over a front of the moves in order, where each stamp is its place.
use Rattle.std.proofs.Common.{◌≡◌, ◌≢◌, ℕ, zero, suc, ◌+◌, ◌-◌, ◌≤◌, ◌<◌, Bool, true, false, List, [], ◌∷◌, length, take, refl, ap, sym, ◌∙◌, subst, arith}
use Rattle.std.specs.Prelude.{cond, nat_le, slice_get, Option, Some, None}
use Rattle.std.proofs.lemmas.Bool.Decides.{nat_tests}
use Rattle.histbook.specs.Budget.{BudgetMove, granted, freed, total, below, at_stamp, granted_below, freed_below, once_between, Each, EachBelow}
use Rattle.tally.specs.declared.moves.Move.{Move}
use Rattle.tally.specs.declared.moves.Move.TheVariants.{Grant, Free}
use Rattle.tally.specs.Moves.{stamp_of, in_history, history_of, used_before, put_move, by_stamp}
use Rattle.tally.specs.Table.{last_stamp}
use Rattle.tally.specs.Walk.{used_after, used_from, used_behind, misplaced, overdrawn, IsClear}
use Rattle.tally.proofs.SortLemmas.{Ascends}
use Rattle.tally.proofs.WalkLemmas.{used_more}

some_is : {A : Type 0} (x y : A) → Some x ≡ Some y → x ≡ y
some_is x y e = grind (arith, e)

-- the sums of the moves in order are those of the moves

module _ (f : BudgetMove → ℕ) where
  put_total : (m : Move) (xs : List Move) → total f (history_of (put_move m xs)) ≡ f (in_history m) + total f (history_of xs)
  put_total m [] = refl
  put_total m (x ∷ xs) = by_test (nat_le (stamp_of m) (stamp_of x)) (put_total m xs)
    where
      by_test : (b : Bool) → total f (history_of (put_move m xs)) ≡ f (in_history m) + total f (history_of xs)
          → total f (history_of (cond b (m ∷ x ∷ xs) (x ∷ put_move m xs))) ≡ f (in_history m) + (f (in_history x) + total f (history_of xs))
      by_test true e = refl
      by_test false e = omega (arith, e)

  pub sorted_total : (xs : List Move) → total f (history_of (by_stamp xs)) ≡ total f (history_of xs)
  sorted_total [] = refl
  sorted_total (x ∷ xs) = omega (arith, put_total x (by_stamp xs), sorted_total xs)

  -- with one move more
  pub take_total : (xs : List Move) (n : ℕ) (m : Move) → slice_get xs n ≡ Some m → total f (history_of (take (suc n) xs)) ≡ total f (history_of (take n xs)) + f (in_history m)
  take_total [] n m e = absurd (grind (arith, e))
  take_total (x ∷ xs) zero m e = let same = ap (λ (y : Move). f (in_history y)) (some_is x m e) in omega (arith, same)
  take_total (x ∷ xs) (suc n) m e = omega (arith, take_total xs n m e)

pub stamp_in : (m : Move) → Rattle.histbook.specs.Budget.stamp_of (in_history m) ≡ stamp_of m
stamp_in (Grant stamp bytes) = refl
stamp_in (Free stamp bytes) = refl

-- the first n stamps are their places, from a first one on; the others are not lower than the n-th place
abbrev pub StandFrom : ℕ → List Move → ℕ → Type 0
StandFrom b xs n = ((k : ℕ) (m : Move) → k < n → slice_get xs k ≡ Some m → stamp_of m ≡ b + k) × ((k : ℕ) (m : Move) → n ≤ k → slice_get xs k ≡ Some m → b + n ≤ stamp_of m)

counts : (weight : BudgetMove → ℕ) (s : ℕ) (m : Move) → stamp_of m < s → below weight s (in_history m) ≡ weight (in_history m)
counts weight s m l = let same = stamp_in m in grind (arith, nat_tests, l, same)

counts_not : (weight : BudgetMove → ℕ) (s : ℕ) (m : Move) → s ≤ stamp_of m → below weight s (in_history m) ≡ 0
counts_not weight s m l = let same = stamp_in m in grind (arith, nat_tests, l, same)

module _ (weight : BudgetMove → ℕ) where
  pub below_front : (b : ℕ) (xs : List Move) (n : ℕ) → StandFrom b xs n → total (below weight (b + n)) (history_of xs) ≡ total weight (history_of (take n xs))
  below_front b [] zero stand = refl
  below_front b [] (suc n) stand = refl
  below_front b (x ∷ xs) zero stand =
      omega (arith, counts_not weight (b + 0) x (stand.1 0 x (omega arith) refl), below_front b xs zero ((λ k m l e. absurd (omega arith)), (λ k m l e. stand.1 (suc k) m (omega arith) e)))
  below_front b (x ∷ xs) (suc n) stand =
      let here = stand.0 0 x (omega arith) refl in
      let more = below_front (suc b) xs n ((λ k m l e. let at = stand.0 (suc k) m (omega arith) e in omega arith), (λ k m l e. let far = stand.1 (suc k) m (omega arith) e in omega arith)) in
      let place : b + suc n ≡ suc b + n = omega arith in
      let rest : total (below weight (b + suc n)) (history_of xs) ≡ total weight (history_of (take n xs)) = ap (λ (s : ℕ). total (below weight s) (history_of xs)) place ∙ more in
      omega (arith, counts weight (b + suc n) x (omega (arith, here)), rest)

-- in an ascending list no later stamp is below an earlier one
pub each_got : (P : Move → Type 0) (xs : List Move) (k : ℕ) (m : Move) → Each P xs → slice_get xs k ≡ Some m → P m
each_got P [] k m h e = absurd (grind (arith, e))
each_got P (x ∷ xs) zero m h e = subst (λ (y : Move). P y) (some_is x m e) h.0
each_got P (x ∷ xs) (suc k) m h e = each_got P xs k m h.1 e

pub ascends_at : (xs : List Move) → Ascends xs → (n k : ℕ) (m p : Move) → n ≤ k → slice_get xs n ≡ Some m → slice_get xs k ≡ Some p → stamp_of m ≤ stamp_of p
ascends_at [] a n k m p l e f = absurd (grind (arith, e))
ascends_at (x ∷ xs) a zero zero m p l e f = let same = some_is m p (sym e ∙ f) in let stamps = ap stamp_of same in omega arith
ascends_at (x ∷ xs) a zero (suc k) m p l e f = let same = ap stamp_of (some_is x m e) in let far = each_got (λ (y : Move). stamp_of x ≤ stamp_of y) xs k p a.0 f in omega (arith, same, far)
ascends_at (x ∷ xs) a (suc n) zero m p l e f = absurd (omega arith)
ascends_at (x ∷ xs) a (suc n) (suc k) m p l e f = ascends_at xs a.1 n k m p (omega arith) e f

-- what is there is inside, and the other way round
pub got_inside : {A : Type 0} (xs : List A) (n : ℕ) (x : A) → slice_get xs n ≡ Some x → n < length xs
got_inside [] n x e = absurd (grind (arith, e))
got_inside (y ∷ xs) zero x e = omega arith
got_inside (y ∷ xs) (suc n) x e = omega (arith, got_inside xs n x e)

pub some_inside : {A : Type 0} (xs : List A) (n : ℕ) → n < length xs → slice_get xs n ≡ None → ⊥
some_inside [] n l e = absurd (omega arith)
some_inside (x ∷ xs) zero l e = absurd (grind (arith, e))
some_inside (x ∷ xs) (suc n) l e = some_inside xs n (omega arith) e

pub none_past : {A : Type 0} (xs : List A) (n : ℕ) → length xs ≤ n → slice_get xs n ≡ None
none_past [] n l = refl
none_past (x ∷ xs) zero l = absurd (omega arith)
none_past (x ∷ xs) (suc n) l = none_past xs n (omega arith)

-- each stamp is its place where no move is misplaced

pub placed : (count s : ℕ) (m : Move) → misplaced count s (Some m) ≡ None → stamp_of m ≡ s
placed count s m e = grind (arith, nat_tests, e)

pub before_last : (count s : ℕ) (m : Move) → misplaced count s (Some m) ≡ None → s ≢ last_stamp
before_last count s m e f = absurd (grind (arith, nat_tests, e, f))

-- all places up to n
abbrev pub ArePlaced : List Move → ℕ → Type 0
ArePlaced xs n = (k : ℕ) (m : Move) → k < n → slice_get xs k ≡ Some m → stamp_of m ≡ k

-- the n-th is placed too, or there is none
abbrev pub IsNext : List Move → ℕ → Type 0
IsNext xs n = (m : Move) → slice_get xs n ≡ Some m → stamp_of m ≡ n

some_at : {A : Type 0} (xs : List A) (n k : ℕ) (x : A) → n ≤ k → slice_get xs k ≡ Some x → slice_get xs n ≡ None → ⊥
some_at [] n k x l e f = absurd (grind (arith, e))
some_at (y ∷ xs) zero k x l e f = absurd (grind (arith, f))
some_at (y ∷ xs) (suc n) zero x l e f = absurd (omega arith)
some_at (y ∷ xs) (suc n) (suc k) x l e f = some_at xs n k x (omega arith) e f

pub stand_from : (xs : List Move) → Ascends xs → (n : ℕ) → ArePlaced xs n → IsNext xs n → StandFrom 0 xs n
stand_from xs a n are next = ((λ k m less e. let at = are k m less e in omega arith), (λ k m le e. by_next k m le e (slice_get xs n) refl))
  where
    by_next : (k : ℕ) (m : Move) → n ≤ k → slice_get xs k ≡ Some m → (o : Option Move) → slice_get xs n ≡ o → 0 + n ≤ stamp_of m
    by_next k m le e (Some p) f = omega (arith, next p f, ascends_at xs a n k p m le f e)
    by_next k m le e None f = absurd (some_at xs n k m le e f)

-- a sum below the n-th stamp
pub sums_at : (moves : List Move) (n : ℕ) → Ascends (by_stamp moves) → ArePlaced (by_stamp moves) n → IsNext (by_stamp moves) n → (weight : BudgetMove → ℕ)
    → total (below weight n) (history_of moves) ≡ total weight (history_of (take n (by_stamp moves)))
sums_at moves n a are next weight =
    let from : 0 + n ≡ n = omega arith in
    sym (sorted_total (below weight n) moves) ∙ sym (ap (λ (s : ℕ). total (below weight s) (history_of (by_stamp moves))) from)
    ∙ below_front weight 0 (by_stamp moves) n (stand_from (by_stamp moves) a n are next)

-- what is used behind moves that show nothing

abbrev pub AreClear : ℕ → List Move → ℕ → Type 0
AreClear limit xs n = (k : ℕ) → k < n → IsClear limit xs k

used_none : (used : ℕ) (xs : List Move) (n : ℕ) → slice_get xs n ≡ None → used_from used xs (suc n) ≡ used_from used xs n
used_none used [] n e = refl
used_none used (x ∷ xs) zero e = absurd (grind (arith, e))
used_none used (x ∷ xs) (suc n) e = used_none (used_after used x) xs n e

take_none : (xs : List Move) (n : ℕ) → slice_get xs n ≡ None → take (suc n) xs ≡ take n xs
take_none [] zero e = refl
take_none [] (suc n) e = refl
take_none (x ∷ xs) zero e = absurd (grind (arith, e))
take_none (x ∷ xs) (suc n) e = ap (λ (l : List Move). x ∷ l) (take_none xs n e)

pub used_zero : (xs : List Move) → used_behind xs 0 ≡ 0
used_zero [] = refl
used_zero (x ∷ xs) = refl

-- what is used is what was granted less what was freed, within the limit
pub record IsEven (limit : ℕ) (xs : List Move) (n : ℕ) : Type 0 where
  pub sum : used_behind xs n + total freed (history_of (take n xs)) ≡ total granted (history_of (take n xs))
  pub within : used_behind xs n ≤ limit

even_more : (limit : ℕ) (xs : List Move) (n : ℕ) (m : Move) → slice_get xs n ≡ Some m → overdrawn limit (used_behind xs n) n (Some m) ≡ None → IsEven limit xs n → IsEven limit xs (suc n)
even_more limit xs n (Grant stamp bytes) e o even =
    let room : used_behind xs n + bytes ≤ limit = grind (arith, nat_tests, o) in
    let used : used_behind xs (suc n) ≡ used_behind xs n + bytes = used_more 0 xs n (Grant stamp bytes) e in
    record { sum = omega (arith, used, even.sum, take_total granted xs n (Grant stamp bytes) e, take_total freed xs n (Grant stamp bytes) e); within = omega (arith, used, room) }
even_more limit xs n (Free stamp bytes) e o even =
    let room : bytes ≤ used_behind xs n = grind (arith, nat_tests, o) in
    let used : used_behind xs (suc n) ≡ used_behind xs n - bytes = used_more 0 xs n (Free stamp bytes) e in
    record { sum = omega (arith, used, room, even.sum, take_total granted xs n (Free stamp bytes) e, take_total freed xs n (Free stamp bytes) e); within = omega (arith, used, even.within) }

pub evens : (limit : ℕ) (xs : List Move) (n : ℕ) → AreClear limit xs n → IsEven limit xs n
evens limit xs zero clear = record { sum = omega (arith, used_zero xs); within = omega (arith, used_zero xs) }
evens limit xs (suc n) clear = by_move (evens limit xs n (λ k l. clear k (omega arith))) (slice_get xs n) refl
  where
    by_move : IsEven limit xs n → (o : Option Move) → slice_get xs n ≡ o → IsEven limit xs (suc n)
    by_move even (Some m) e = even_more limit xs n m e (ap (λ (o : Option Move). overdrawn limit (used_behind xs n) n o) (sym e) ∙ (clear n (omega arith)).1) even
    by_move even None e =
        let same = ap history_of (take_none xs n e) in
        record {
          sum = omega (arith, used_none 0 xs n e, even.sum, ap (λ (l : List BudgetMove). total freed l) same, ap (λ (l : List BudgetMove). total granted l) same);
          within = omega (arith, used_none 0 xs n e, even.within);
        }

pub clear_placed : (limit : ℕ) (xs : List Move) (n : ℕ) → AreClear limit xs n → ArePlaced xs n
clear_placed limit xs n clear k m l e = placed (length xs) k m (ap (λ (o : Option Move). misplaced (length xs) k o) (sym e) ∙ (clear k l).0)

-- the used number before a stamp, by the sums and by the moves that were made
pub record IsUsed (limit : ℕ) (moves : List Move) (n : ℕ) : Type 0 where
  pub used : used_before moves n ≡ used_behind (by_stamp moves) n
  pub sum : used_behind (by_stamp moves) n + freed_below n (history_of moves) ≡ granted_below n (history_of moves)
  pub within : used_behind (by_stamp moves) n ≤ limit

pub used_at : (limit : ℕ) (moves : List Move) (n : ℕ) → Ascends (by_stamp moves) → AreClear limit (by_stamp moves) n → IsNext (by_stamp moves) n → IsUsed limit moves n
used_at limit moves n a clear next =
    let even = evens limit (by_stamp moves) n clear in
    let sums = sums_at moves n a (clear_placed limit (by_stamp moves) n clear) next in
    let grants : granted_below n (history_of moves) ≡ total granted (history_of (take n (by_stamp moves))) = sums granted in
    let frees : freed_below n (history_of moves) ≡ total freed (history_of (take n (by_stamp moves))) = sums freed in
    record { used = omega (arith, even.sum, grants, frees); sum = omega (arith, even.sum, grants, frees); within = even.within }
