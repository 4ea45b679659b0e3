-- Sums over the moves of a budget, and what follows from looking at each stamp.
use Rattle.std.proofs.Common.{◌≡◌, ℕ, zero, suc, ◌+◌, ◌<◌, ◌≤◌, Bool, true, false, List, [], ◌∷◌, ◌++◌, length, refl, ap, sym, ◌∙◌, subst, arith, append_assoc}
use Rattle.std.specs.Prelude.{nat_eq, nat_lt, if◌then◌else◌}
use Rattle.std.proofs.lemmas.Bool.Decides.{nat_tests}
use Rattle.prio_budget.specs.declared.look.Look.{Look}
use Rattle.histbook.specs.Budget.{BudgetMove, Grant, Release, stamp_of, granted, freed, total, below, at_stamp, granted_below, freed_below, once_between, Each, EachBelow, IsUsedBefore, IsTrueLook, IsFairMove, HasEachStampOnce, HadRoom, StaysWithin, IsOneHistory, IsChecked}

module _ {A : Type 0} (f : A → ℕ) where
  pub total_append : (xs ys : List A) → total f (xs ++ ys) ≡ total f xs + total f ys
  total_append [] ys = omega arith
  total_append (x ∷ xs) ys = omega (arith, total_append xs ys)

module _ {A : Type 0} (f g : A → ℕ) where
  total_same : (xs : List A) → Each (λ x. f x ≡ g x) xs → total f xs ≡ total g xs
  total_same [] same = refl
  total_same (x ∷ xs) same = omega (arith, same.0, total_same xs same.1)

  total_most : (xs : List A) → ((x : A) → f x ≤ g x) → total f xs ≤ total g xs
  total_most [] most = omega arith
  total_most (x ∷ xs) most = omega (arith, most x, total_most xs most)

module _ {A : Type 0} (f g h : A → ℕ) where
  total_sum : (xs : List A) → ((x : A) → f x + g x ≡ h x) → total f xs + total g xs ≡ total h xs
  total_sum [] sums = refl
  total_sum (x ∷ xs) sums = omega (arith, sums x, total_sum xs sums)

module _ {A : Type 0} where
  pub each_of : (P Q : A → Type 0) → ((x : A) → P x → Q x) → (xs : List A) → Each P xs → Each Q xs
  each_of P Q h [] e = tt
  each_of P Q h (x ∷ xs) e = (h x e.0, each_of P Q h xs e.1)

  -- what holds of each element at its place holds of each
  from_place : (P : A → Type 0) (before rest : List A) → ((front : List A) (x : A) (behind : List A) → before ++ rest ≡ front ++ x ∷ behind → P x) → Each P rest
  from_place P before [] h = tt
  from_place P before (x ∷ rest) h =
      (h before x rest refl, from_place P (before ++ x ∷ []) rest (λ front y behind e. h front y behind (sym (append_assoc before (x ∷ []) rest) ∙ e)))

  pub each_placed : (P : A → Type 0) (xs : List A) → ((front : List A) (x : A) (behind : List A) → xs ≡ front ++ x ∷ behind → P x) → Each P xs
  each_placed P xs h = from_place P [] xs h

  total_none : (f : A → ℕ) (xs : List A) → Each (λ x. f x ≡ 0) xs → total f xs ≡ 0
  total_none f [] none = refl
  total_none f (x ∷ xs) none = omega (arith, none.0, total_none f xs none.1)

at_below : (P : ℕ → Type 0) (n k : ℕ) → EachBelow P n → k < n → P k
at_below P zero k each less = absurd (omega arith)
at_below P (suc n) k each less = by_test (at_below P n k each.0) each.1 (nat_lt k n) refl
  where
    by_test : (k < n → P k) → P n → (b : Bool) → nat_lt k n ≡ b → P k
    by_test earlier last true e = earlier (grind (arith, nat_tests))
    by_test earlier last false e = let same : n ≡ k = grind (arith, nat_tests) in subst P same last

-- the weights of one move

abbrev picked : Bool → ℕ → ℕ
picked b n = if b then n else 0

more_below : (weight stamp s : ℕ) → picked (nat_lt s stamp) weight + picked (nat_eq s stamp) weight ≡ picked (nat_lt s (suc stamp)) weight
more_below weight stamp s = grind (arith, nat_tests)

-- 1 for a stamp below a number
abbrev early : ℕ → BudgetMove → ℕ
early end move = if nat_lt (stamp_of move) end then 1 else 0

count_below : (moves : List BudgetMove) (k : ℕ) → EachBelow (λ n. total (at_stamp n) moves ≡ 1) k → total (early k) moves ≡ k
count_below moves zero each = total_none (early 0) moves (each_of _ _ (λ move h. h) moves (none moves))
  where
    none : (xs : List BudgetMove) → Each (λ move. early 0 move ≡ 0) xs
    none [] = tt
    none (x ∷ xs) = (grind (arith, nat_tests), none xs)
count_below moves (suc k) each =
    let more = total_sum (early k) (at_stamp k) (early (suc k)) moves (λ move. more_below 1 k (stamp_of move)) in
    omega (arith, more, count_below moves k each.0, each.1)

at_most_length : (end : ℕ) (moves : List BudgetMove) → total (early end) moves ≤ length moves
at_most_length end [] = omega arith
at_most_length end (move ∷ moves) = let one : early end move ≤ 1 = grind (arith, nat_tests) in omega (arith, one, at_most_length end moves)

-- where as many moves are early as there are, each is
all_early : (end : ℕ) (moves : List BudgetMove) → total (early end) moves ≡ length moves → Each (λ move. stamp_of move < end) moves
all_early end [] e = tt
all_early end (move ∷ moves) e = by_test (all_early end moves) (nat_lt (stamp_of move) end) refl e
  where
    by_test : (total (early end) moves ≡ length moves → Each (λ m. stamp_of m < end) moves) → (b : Bool) → nat_lt (stamp_of move) end ≡ b
        → picked b 1 + total (early end) moves ≡ suc (length moves) → Each (λ m. stamp_of m < end) (move ∷ moves)
    by_test behind true t e = (grind (arith, nat_tests), behind (omega arith))
    by_test behind false t e = absurd (omega (arith, at_most_length end moves))

pub stamps_early : (moves : List BudgetMove) → EachBelow (λ n. total (at_stamp n) moves ≡ 1) (length moves) → Each (λ move. stamp_of move < length moves) moves
stamps_early moves each = all_early (length moves) moves (count_below moves (length moves) each)

-- each stamp once, at each number

pub each_stamp_once : (moves : List BudgetMove) → EachBelow (λ n. total (at_stamp n) moves ≡ 1) (length moves) → HasEachStampOnce 0 moves
each_stamp_once moves each n = by_test (nat_lt n (length moves)) refl
  where
    other : (move : BudgetMove) → length moves ≤ n → stamp_of move < length moves → at_stamp n move ≡ 0
    other move far near = grind (arith, nat_tests)

    inside : (end : ℕ) → n < end → once_between 0 end n ≡ 1
    inside end h = grind (arith, nat_tests)

    outside : (end : ℕ) → end ≤ n → once_between 0 end n ≡ 0
    outside end h = grind (arith, nat_tests)

    by_test : (b : Bool) → nat_lt n (length moves) ≡ b → total (at_stamp n) moves ≡ once_between 0 (0 + length moves) n
    by_test true e =
        let less : n < length moves = grind (arith, nat_tests) in
        let less' : n < 0 + length moves = omega arith in
        at_below (λ k. total (at_stamp k) moves ≡ 1) (length moves) n each less ∙ sym (inside (0 + length moves) less')
    by_test false e =
        let far : length moves ≤ n = grind (arith, nat_tests) in
        let far' : 0 + length moves ≤ n = omega arith in
        total_none (at_stamp n) moves (each_of _ _ (λ move near. other move far near) moves (stamps_early moves each)) ∙ sym (outside (0 + length moves) far')

-- never above the limit, before any stamp

late_same : (weight : BudgetMove → ℕ) (end n : ℕ) (moves : List BudgetMove) → end ≤ n → Each (λ move. stamp_of move < end) moves → total (below weight n) moves ≡ total (below weight end) moves
late_same weight end n moves far near = total_same (below weight n) (below weight end) moves (each_of _ _ (λ move h. one (weight move) (stamp_of move) h) moves near)
  where
    one : (w s : ℕ) → s < end → picked (nat_lt s n) w ≡ picked (nat_lt s end) w
    one w s h = grind (arith, nat_tests)

none_early : (weight : BudgetMove → ℕ) (moves : List BudgetMove) → total (below weight 0) moves ≡ 0
none_early weight [] = refl
none_early weight (move ∷ moves) = let none : below weight 0 move ≡ 0 = grind (arith, nat_tests) in omega (arith, none, none_early weight moves)

pub stays_within : (limit end : ℕ) (moves : List BudgetMove) → Each (λ move. stamp_of move < end) moves
    → EachBelow (λ n. granted_below (suc n) moves ≤ limit + freed_below (suc n) moves) end → StaysWithin limit moves
stays_within limit end moves near each zero = omega (arith, none_early granted moves)
stays_within limit end moves near each (suc n) = by_test (nat_lt n end) refl
  where
    last : (k : ℕ) → Each (λ move. stamp_of move < k) moves → EachBelow (λ m. granted_below (suc m) moves ≤ limit + freed_below (suc m) moves) k → granted_below k moves ≤ limit + freed_below k moves
    last zero near each = omega (arith, none_early granted moves)
    last (suc k) near each = each.1

    by_test : (b : Bool) → nat_lt n end ≡ b → granted_below (suc n) moves ≤ limit + freed_below (suc n) moves
    by_test true e = let less : n < end = grind (arith, nat_tests) in at_below (λ m. granted_below (suc m) moves ≤ limit + freed_below (suc m) moves) end n each less
    by_test false e =
        let far : end ≤ suc n = grind (arith, nat_tests) in
        omega (arith, late_same granted end (suc n) moves far near, late_same freed end (suc n) moves far near, last end near each)

-- a grant found room, since nothing else stands at its stamp

abbrev weighed_at : (BudgetMove → ℕ) → ℕ → BudgetMove → ℕ
weighed_at weight stamp move = if nat_eq (stamp_of move) stamp then weight move else 0

one_more : (weight : BudgetMove → ℕ) (stamp : ℕ) (moves : List BudgetMove) → total (below weight stamp) moves + total (weighed_at weight stamp) moves ≡ total (below weight (suc stamp)) moves
one_more weight stamp moves = total_sum (below weight stamp) (weighed_at weight stamp) (below weight (suc stamp)) moves (λ move. more_below (weight move) stamp (stamp_of move))

none_at : (weight : BudgetMove → ℕ) (stamp : ℕ) (moves : List BudgetMove) → total (at_stamp stamp) moves ≡ 0 → total (weighed_at weight stamp) moves ≡ 0
none_at weight stamp [] e = refl
none_at weight stamp (move ∷ moves) e =
    let first : at_stamp stamp move ≡ 0 = omega arith in
    let rest : total (at_stamp stamp) moves ≡ 0 = omega arith in
    omega (arith, one (weight move) (stamp_of move) first, none_at weight stamp moves rest)
  where
    one : (w s : ℕ) → picked (nat_eq s stamp) 1 ≡ 0 → picked (nat_eq s stamp) w ≡ 0
    one w s h = grind (arith, nat_tests)

here : (w s : ℕ) → picked (nat_eq s s) w ≡ w
here w s = grind (arith, nat_tests)

alone : (weight : BudgetMove → ℕ) (front behind : List BudgetMove) (move : BudgetMove) → total (at_stamp (stamp_of move)) (front ++ move ∷ behind) ≡ 1
    → total (weighed_at weight (stamp_of move)) (front ++ move ∷ behind) ≡ weight move
alone weight front behind move e =
    let s = stamp_of move in
    let parts = total_append (at_stamp s) front (move ∷ behind) in
    let one : at_stamp s move ≡ 1 = here 1 s in
    let before : total (at_stamp s) front ≡ 0 = omega (arith, parts, one) in
    let after : total (at_stamp s) behind ≡ 0 = omega (arith, parts, one) in
    let its : weighed_at weight s move ≡ weight move = here (weight move) s in
    omega (arith, total_append (weighed_at weight s) front (move ∷ behind), none_at weight s front before, none_at weight s behind after, its)

-- a fact on what a grant found
abbrev pub OnGrant : (Look → Type 0) → BudgetMove → Type 0
OnGrant P (Grant look bytes) = P look
OnGrant P (Release free) = Unit {0}

pub each_at : {A : Type 0} (P : A → Type 0) (front behind : List A) (x : A) → Each P (front ++ x ∷ behind) → P x
each_at P [] behind x e = e.0
each_at P (y ∷ front) behind x e = each_at P front behind x e.1

each_in : {A : Type 0} (P : A → Type 0) (xs front behind : List A) (x : A) → xs ≡ front ++ x ∷ behind → Each P xs → P x
each_in P xs front behind x same e = each_at P front behind x (subst (λ (l : List _). Each P l) same e)

alone_in : (weight : BudgetMove → ℕ) (moves front behind : List BudgetMove) (move : BudgetMove) → moves ≡ front ++ move ∷ behind → total (at_stamp (stamp_of move)) moves ≡ 1
    → total (weighed_at weight (stamp_of move)) moves ≡ weight move
alone_in weight moves front behind move same e =
    ap (λ (l : List BudgetMove). total (weighed_at weight (stamp_of move)) l) same
    ∙ alone weight front behind move (sym (ap (λ (l : List BudgetMove). total (at_stamp (stamp_of move)) l) same) ∙ e)

once_inside : (first end n : ℕ) → first ≤ n → n < end → once_between first end n ≡ 1
once_inside first end n h k = grind (arith, nat_tests)

inside_once : (first end n : ℕ) → 1 ≤ once_between first end n → (first ≤ n) × (n < end)
inside_once first end n h = (grind (arith, nat_tests), grind (arith, nat_tests))

-- the stamps of a history are in its range
pub stamps_inside : (first : ℕ) (moves : List BudgetMove) → HasEachStampOnce first moves → Each (λ move. (first ≤ stamp_of move) × (stamp_of move < first + length moves)) moves
stamps_inside first moves once = each_placed _ moves (λ front move behind same.
    let s = stamp_of move in
    let parts = ap (λ (l : List BudgetMove). total (at_stamp s) l) same ∙ total_append (at_stamp s) front (move ∷ behind) in
    let its : at_stamp s move ≡ 1 = here 1 s in
    let some : 1 ≤ once_between first (first + length moves) s = omega (arith, parts, its, once s) in
    inside_once first (first + length moves) s some)

abbrev IsTrueIn : List BudgetMove → Look → Type 0
IsTrueIn moves look = IsTrueLook (λ n. granted_below n moves) (λ n. freed_below n moves) (0 + length moves) look

abbrev IsFairIn : ℕ → List BudgetMove → BudgetMove → Type 0
IsFairIn limit moves move = IsFairMove (λ n. granted_below n moves) (λ n. freed_below n moves) limit (0 + length moves) move

fair_in : (limit : ℕ) (moves front behind : List BudgetMove) (move : BudgetMove) → moves ≡ front ++ move ∷ behind → HasEachStampOnce 0 moves → StaysWithin limit moves
    → stamp_of move < 0 + length moves → OnGrant (IsTrueIn moves) move → IsFairIn limit moves move
fair_in limit moves front behind (Release free) same once within near found = near
fair_in limit moves front behind (Grant look bytes) same once within near found =
    let one : total (at_stamp look.stamp) moves ≡ 1 = once look.stamp ∙ once_inside 0 (0 + length moves) look.stamp (omega arith) near in
    let gains : total (weighed_at granted look.stamp) moves ≡ bytes = alone_in granted moves front behind (Grant look bytes) same one in
    let loses : total (weighed_at freed look.stamp) moves ≡ 0 = alone_in freed moves front behind (Grant look bytes) same one in
    let room : look.found + bytes ≤ limit = omega (arith, gains, loses, one_more granted look.stamp moves, one_more freed look.stamp moves, within (suc look.stamp), found.1) in
    (near, found.1, room)

-- where each stamp stands once, each grant's look is true, and the used number stays within the limit, each grant found room
pub each_had_room : (limit : ℕ) (moves : List BudgetMove) → HasEachStampOnce 0 moves → Each (OnGrant (IsTrueIn moves)) moves → StaysWithin limit moves → HadRoom limit 0 moves
each_had_room limit moves once found within =
    each_placed (IsFairIn limit moves) moves (λ front move behind same.
    fair_in limit moves front behind move same once within (each_in _ moves front behind move same (stamps_inside 0 moves once)).1
    (each_in (OnGrant (IsTrueIn moves)) moves front behind move same found))

-- looking at each stamp is enough
pub checked_once : (limit : ℕ) (moves : List BudgetMove) (looks : List Look) → IsChecked limit moves looks → Each (OnGrant (IsTrueIn moves)) moves → IsOneHistory limit 0 moves looks
checked_once limit moves looks checked found =
    let once = each_stamp_once moves checked.once in
    let within = stays_within limit (length moves) moves (stamps_early moves checked.once) checked.within in
    record { once = once; found = checked.found; fair = each_had_room limit moves once found within; within = within; settled = checked.settled }

pub all_below : (P : ℕ → Type 0) (n : ℕ) → ((k : ℕ) → k < n → P k) → EachBelow P n
all_below P zero h = tt
all_below P (suc n) h = (all_below P n (λ k less. h k (omega arith)), h n (omega arith))

pub history_checked : (limit : ℕ) (moves : List BudgetMove) (looks : List Look) → IsOneHistory limit 0 moves looks → IsChecked limit moves looks
history_checked limit moves looks history = record {
  once = all_below (λ n. total (at_stamp n) moves ≡ 1) (length moves) (λ n less. let less' : n < 0 + length moves = omega arith in history.once n ∙ once_inside 0 (0 + length moves) n (omega arith) less');
  found = history.found;
  within = all_below (λ n. granted_below (suc n) moves ≤ limit + freed_below (suc n) moves) (length moves) (λ n less. history.within (suc n));
  settled = history.settled;
}

-- before a stamp behind all moves nothing is used
all_counted : (weight : BudgetMove → ℕ) (n : ℕ) (moves : List BudgetMove) → Each (λ move. stamp_of move < n) moves → total (below weight n) moves ≡ total weight moves
all_counted weight n moves near = total_same (below weight n) weight moves (each_of _ _ (λ move h. one (weight move) (stamp_of move) h) moves near)
  where
    one : (w s : ℕ) → s < n → picked (nat_lt s n) w ≡ w
    one w s h = grind (arith, nat_tests)

pub all_back : (limit first : ℕ) (moves : List BudgetMove) (looks : List Look) → IsOneHistory limit first moves looks → (n used : ℕ) → first + length moves ≤ n
    → IsUsedBefore (λ k. granted_below k moves) (λ k. freed_below k moves) n used → used ≡ 0
all_back limit first moves looks history n used behind is =
    let near : Each (λ move. stamp_of move < n) moves = each_of _ (λ move. stamp_of move < n) (λ move h. let far = h.1 in omega arith) moves (stamps_inside first moves history.once) in
    omega (arith, is, history.settled, all_counted granted n moves near, all_counted freed n moves near)
