-- What steps in turn come to, and that they are one history of their budget.
use Rattle.std.proofs.Common.{◌≡◌, ℕ, zero, suc, ◌+◌, ◌<◌, ◌≤◌, max, Bool, true, false, List, [], ◌∷◌, ◌++◌, length, refl, ap, sym, ◌∙◌, subst, arith}
use Rattle.std.specs.Prelude.{nat_lt, if◌then◌else◌, map, flat_map}
use Rattle.std.proofs.lemmas.Bool.Decides.{nat_tests}
use Rattle.std.proofs.lemmas.List.{append-nil, length-append}
use Rattle.std.proofs.lemmas.Grind.{flat_map-append}
use Rattle.prio_budget.specs.declared.look.Look.{Look}
use Rattle.prio_budget.specs.declared.free.Free.{Free}
use Rattle.histbook.specs.declared.look_entry.LookEntry.{LookEntry}
use Rattle.histbook.specs.declared.core_entry.CoreEntry.{CoreEntry}
use Rattle.histbook.specs.declared.journal.Journal.{Journal}
use Rattle.histbook.specs.Budget.{BudgetMove, Grant, Release, stamp_of, granted, freed, total, below, at_stamp, granted_below, freed_below, once_between, Each, IsTrueLook, IsOneHistory}
use Rattle.histbook.specs.Moves.{looks_in, frees_in, grant_of, entry_moves, book_moves, entry_looks, book_looks, IsBudgetHistory}
use Rattle.histbook.specs.InTurn.{BudgetStep, Ask, GiveBack, entry_steps, book_steps, moves_of, step_moves, looks_of, step_looks, stamp_behind, used_behind, IsDoneAt, IsInTurn, peak_along, kept_peak, peak_below, peak, EachPair, found_stamp, IsMove, ComesAfter, frees_of, asks_of, step_frees, step_asks, book_frees, book_asks, FreedAfter, AskedAfter}
use Rattle.histbook.proofs.BudgetLemmas.{total_append, each_of, each_at, OnGrant, each_had_room}
use Rattle.histbook.proofs.MovesLemmas.{each_append, each_part, granted_look}

-- one step

abbrev grant_if : Bool → LookEntry → List BudgetMove
grant_if granted look = if granted then Grant look.look look.asked ∷ [] else []

length_of_moves : (step : BudgetStep) (stamp : ℕ) → stamp_behind step stamp ≡ stamp + length (moves_of step)
length_of_moves (Ask look) stamp = by_test look.granted
  where
    by_test : (b : Bool) → (if b then suc stamp else stamp) ≡ stamp + length (grant_if b look)
    by_test true = omega arith
    by_test false = omega arith
length_of_moves (GiveBack free) stamp = omega arith

one_more_at_most : (step : BudgetStep) (stamp : ℕ) → stamp_behind step stamp ≤ suc stamp
one_more_at_most (Ask look) stamp = by_test look.granted
  where
    by_test : (b : Bool) → (if b then suc stamp else stamp) ≤ suc stamp
    by_test true = omega arith
    by_test false = omega arith
one_more_at_most (GiveBack free) stamp = omega arith

module _ (limit stamp used : ℕ) where
  used_of_moves : (step : BudgetStep) → IsDoneAt limit step stamp used → used_behind step used + total freed (moves_of step) ≡ used + total granted (moves_of step)
  used_of_moves (Ask look) done = by_test look.granted
    where
      by_test : (b : Bool) → (if b then used + look.asked else used) + total freed (grant_if b look) ≡ used + total granted (grant_if b look)
      by_test true = omega arith
      by_test false = omega arith
  used_of_moves (GiveBack free) done = omega arith

  stamps_of_moves : (step : BudgetStep) → IsDoneAt limit step stamp used → Each (λ move. stamp_of move ≡ stamp) (moves_of step)
  stamps_of_moves (Ask look) done = by_test look.granted
    where
      by_test : (b : Bool) → Each (λ move. stamp_of move ≡ stamp) (grant_if b look)
      by_test true = (done.0, tt)
      by_test false = tt
  stamps_of_moves (GiveBack free) done = (done.0, tt)

  looks_of_step : (step : BudgetStep) → IsDoneAt limit step stamp used → Each (λ look. (look.stamp ≡ stamp) × (look.found ≡ used)) (looks_of step)
  looks_of_step (Ask look) done = ((done.0, done.1), tt)
  looks_of_step (GiveBack free) done = tt

  used_in_room : (step : BudgetStep) → IsDoneAt limit step stamp used → used ≤ limit → used_behind step used ≤ limit
  used_in_room (Ask look) done room = by_test look.granted done.2
    where
      by_test : (b : Bool) → (b ≡ true → used + look.asked ≤ limit) → (if b then used + look.asked else used) ≤ limit
      by_test true fits = fits refl
      by_test false fits = room
  used_in_room (GiveBack free) done room = omega arith

  moves_at : (step : BudgetStep) (n : ℕ) → IsDoneAt limit step stamp used → total (at_stamp n) (moves_of step) ≡ once_between stamp (stamp_behind step stamp) n
  moves_at (Ask look) n done = by_test look.granted
    where
      one : (s : ℕ) → s ≡ stamp → at_stamp n (Grant look.look look.asked) + 0 ≡ once_between stamp (suc stamp) n
      one s h = let at : look.look.stamp ≡ stamp = done.0 in grind (arith, nat_tests)

      by_test : (b : Bool) → total (at_stamp n) (grant_if b look) ≡ once_between stamp (if b then suc stamp else stamp) n
      by_test true = one look.look.stamp done.0
      by_test false = grind (arith, nat_tests)
  moves_at (GiveBack free) n done = let at : free.stamp ≡ stamp = done.0 in grind (arith, nat_tests)

-- moves at one stamp

module _ (weight : BudgetMove → ℕ) (stamp n : ℕ) where
  counted : (move : BudgetMove) → stamp_of move ≡ stamp → stamp < n → below weight n move ≡ weight move
  counted move at h = grind (arith, nat_tests)

  uncounted : (move : BudgetMove) → stamp_of move ≡ stamp → n ≤ stamp → below weight n move ≡ 0
  uncounted move at h = grind (arith, nat_tests)

  all_at : (moves : List BudgetMove) → Each (λ move. stamp_of move ≡ stamp) moves → stamp + length moves ≤ n → total (below weight n) moves ≡ total weight moves
  all_at [] at h = refl
  all_at (move ∷ moves) at h = omega (arith, counted move at.0 (omega arith), all_at moves at.1 (omega arith))

  none_at : (moves : List BudgetMove) → Each (λ move. stamp_of move ≡ stamp) moves → n ≤ stamp → total (below weight n) moves ≡ 0
  none_at [] at h = refl
  none_at (move ∷ moves) at h = omega (arith, uncounted move at.0 h, none_at moves at.1 h)

once_joined : (a b c n : ℕ) → a ≤ b → b ≤ c → once_between a b n + once_between b c n ≡ once_between a c n
once_joined a b c n h k = grind (arith, nat_tests)

-- lists of steps

weight_joined : (weight : BudgetMove → ℕ) (step : BudgetStep) (steps : List BudgetStep) → total weight (step_moves (step ∷ steps)) ≡ total weight (moves_of step) + total weight (step_moves steps)
weight_joined weight step steps = total_append weight (moves_of step) (step_moves steps)

module _ (limit : ℕ) where
  pub in_turn_append : (xs ys : List BudgetStep) (s u t v : ℕ) (s' u' : ℕ) → IsInTurn limit xs s u t v → IsInTurn limit ys t v s' u' → IsInTurn limit (xs ++ ys) s u s' u'
  in_turn_append [] ys s u t v s' u' first rest =
      let moved = subst (λ (n : ℕ). IsInTurn limit ys n v s' u') first.0 rest in
      subst (λ (n : ℕ). IsInTurn limit ys s n s' u') first.1 moved
  in_turn_append (x ∷ xs) ys s u t v s' u' first rest = (first.0, in_turn_append xs ys (stamp_behind x s) (used_behind x u) t v s' u' first.1 rest)

  pub stamps_count : (steps : List BudgetStep) (s u s' u' : ℕ) → IsInTurn limit steps s u s' u' → s' ≡ s + length (step_moves steps)
  stamps_count [] s u s' u' turn = let same = turn.0 in omega arith
  stamps_count (step ∷ steps) s u s' u' turn =
      omega (arith, stamps_count steps (stamp_behind step s) (used_behind step u) s' u' turn.1, length_of_moves step s, length-append (moves_of step) (step_moves steps))

  pub stamps_never_fall : (steps : List BudgetStep) (s u s' u' : ℕ) → IsInTurn limit steps s u s' u' → s ≤ s'
  stamps_never_fall steps s u s' u' turn = omega (arith, stamps_count steps s u s' u' turn)

  pub used_adds_up : (steps : List BudgetStep) (s u s' u' : ℕ) → IsInTurn limit steps s u s' u' → u' + total freed (step_moves steps) ≡ u + total granted (step_moves steps)
  used_adds_up [] s u s' u' turn = let same = turn.1 in omega arith
  used_adds_up (step ∷ steps) s u s' u' turn = omega (
    arith,
    used_adds_up steps (stamp_behind step s) (used_behind step u) s' u' turn.1,
    used_of_moves limit s u step turn.0,
    weight_joined freed step steps,
    weight_joined granted step steps,
  )

  -- the sums below a stamp: 0 at first, all of them at last
  pub none_before : (weight : BudgetMove → ℕ) (n : ℕ) (steps : List BudgetStep) (s u s' u' : ℕ) → IsInTurn limit steps s u s' u' → n ≤ s → total (below weight n) (step_moves steps) ≡ 0
  none_before weight n [] s u s' u' turn h = refl
  none_before weight n (step ∷ steps) s u s' u' turn h =
      let later : n ≤ stamp_behind step s = omega (arith, length_of_moves step s) in
      omega (
        arith,
        weight_joined (below weight n) step steps,
        none_at weight s n (moves_of step) (stamps_of_moves limit s u step turn.0) h,
        none_before weight n steps (stamp_behind step s) (used_behind step u) s' u' turn.1 later,
      )

  -- a step's own moves count below each stamp from the one behind it on
  counts_first : (weight : BudgetMove → ℕ) (n : ℕ) (step : BudgetStep) (s u : ℕ) → IsDoneAt limit step s u → stamp_behind step s ≤ n → total (below weight n) (moves_of step) ≡ total weight (moves_of step)
  counts_first weight n step s u done h = all_at weight s n (moves_of step) (stamps_of_moves limit s u step done) (omega (arith, length_of_moves step s))

  pub all_behind : (weight : BudgetMove → ℕ) (n : ℕ) (steps : List BudgetStep) (s u s' u' : ℕ) → IsInTurn limit steps s u s' u' → s' ≤ n → total (below weight n) (step_moves steps) ≡ total weight (step_moves steps)
  all_behind weight n [] s u s' u' turn h = refl
  all_behind weight n (step ∷ steps) s u s' u' turn h =
      let early : stamp_behind step s ≤ n = omega (arith, stamps_never_fall steps (stamp_behind step s) (used_behind step u) s' u' turn.1) in
      omega (
        arith,
        weight_joined (below weight n) step steps,
        weight_joined weight step steps,
        counts_first weight n step s u turn.0 early,
        all_behind weight n steps (stamp_behind step s) (used_behind step u) s' u' turn.1 h,
      )

  -- each stamp in between stands once
  stands_once : (n : ℕ) (steps : List BudgetStep) (s u s' u' : ℕ) → IsInTurn limit steps s u s' u' → total (at_stamp n) (step_moves steps) ≡ once_between s s' n
  stands_once n [] s u s' u' turn = let same = turn.0 in grind (arith, nat_tests)
  stands_once n (step ∷ steps) s u s' u' turn =
      let t = stamp_behind step s in
      omega (
        arith,
        weight_joined (at_stamp n) step steps,
        moves_at limit s u step n turn.0,
        stands_once n steps t (used_behind step u) s' u' turn.1,
        once_joined s t s' n (omega (arith, length_of_moves step s)) (stamps_never_fall steps t (used_behind step u) s' u' turn.1),
      )

  -- the used number stays within what it is at first and the peak
  pub stays_below : (bound n : ℕ) (steps : List BudgetStep) (s u s' u' : ℕ) → IsInTurn limit steps s u s' u' → u ≤ bound → peak_along steps u ≤ bound
      → u + granted_below n (step_moves steps) ≤ bound + freed_below n (step_moves steps)
  stays_below bound n [] s u s' u' turn first peak = omega arith
  stays_below bound n (step ∷ steps) s u s' u' turn first peak =
      by_test (stays_below bound n steps (stamp_behind step s) (used_behind step u) s' u' turn.1) (nat_lt s n) refl
    where
      by_test : (used_behind step u ≤ bound → peak_along steps (used_behind step u) ≤ bound → used_behind step u + granted_below n (step_moves steps) ≤ bound + freed_below n (step_moves steps)) → (b : Bool) → nat_lt s n ≡ b → u + granted_below n (step_moves (step ∷ steps)) ≤ bound + freed_below n (step_moves (step ∷ steps))
      by_test behind_it true e =
          let behind : s < n = grind (arith, nat_tests) in
          let early : stamp_behind step s ≤ n = omega (arith, one_more_at_most step s) in
          let now : used_behind step u ≤ bound = omega arith in
          let later : peak_along steps (used_behind step u) ≤ bound = omega arith in
          omega (
            arith,
            weight_joined (below granted n) step steps,
            weight_joined (below freed n) step steps,
            counts_first granted n step s u turn.0 early,
            counts_first freed n step s u turn.0 early,
            used_of_moves limit s u step turn.0,
            behind_it now later,
          )
      by_test behind_it false e =
          let before : n ≤ s = grind (arith, nat_tests) in
          omega (arith, none_before granted n (step ∷ steps) s u s' u' turn before, none_before freed n (step ∷ steps) s u s' u' turn before)

  pub peak_in_room : (steps : List BudgetStep) (s u s' u' : ℕ) → IsInTurn limit steps s u s' u' → u ≤ limit → peak_along steps u ≤ limit
  peak_in_room [] s u s' u' turn room = omega arith
  peak_in_room (step ∷ steps) s u s' u' turn room =
      let now : used_behind step u ≤ limit = used_in_room limit s u step turn.0 room in
      omega (arith, peak_in_room steps (stamp_behind step s) (used_behind step u) s' u' turn.1 now)

  -- each look found the used number before its stamp
  abbrev FoundIn : (steps : List BudgetStep) (s u s' : ℕ) → Look → Type 0
  FoundIn steps s u s' look = (s ≤ look.stamp) × (look.stamp ≤ s') × (look.found + freed_below look.stamp (step_moves steps) ≡ u + granted_below look.stamp (step_moves steps))

  pub looks_found : (steps : List BudgetStep) (s u s' u' : ℕ) → IsInTurn limit steps s u s' u' → Each (FoundIn steps s u s') (step_looks steps)
  looks_found [] s u s' u' turn = tt
  looks_found (step ∷ steps) s u s' u' turn =
      each_append (FoundIn (step ∷ steps) s u s') (looks_of step) (step_looks steps)
      (each_of _ (FoundIn (step ∷ steps) s u s') here (looks_of step) (looks_of_step limit s u step turn.0))
      (each_of (FoundIn steps (stamp_behind step s) (used_behind step u) s') (FoundIn (step ∷ steps) s u s') later (step_looks steps) (looks_found steps (stamp_behind step s) (used_behind step u) s' u' turn.1))
    where
      here : (look : Look) → (look.stamp ≡ s) × (look.found ≡ u) → FoundIn (step ∷ steps) s u s' look
      here look is =
          let at = is.0 in
          let before : look.stamp ≤ s = omega arith in
          let grants = none_before granted look.stamp (step ∷ steps) s u s' u' turn before in
          let frees = none_before freed look.stamp (step ∷ steps) s u s' u' turn before in
          (omega arith, omega (arith, stamps_never_fall (step ∷ steps) s u s' u' turn), omega (arith, is.1, grants, frees))

      later : (look : Look) → FoundIn steps (stamp_behind step s) (used_behind step u) s' look → FoundIn (step ∷ steps) s u s' look
      later look is =
          let early : stamp_behind step s ≤ look.stamp = is.0 in
          let found : look.found + freed_below look.stamp (step_moves steps) ≡ used_behind step u + granted_below look.stamp (step_moves steps) = is.2 in
          let its : look.found + freed_below look.stamp (step_moves (step ∷ steps)) ≡ u + granted_below look.stamp (step_moves (step ∷ steps)) = omega (
            arith,
            weight_joined (below granted look.stamp) step steps,
            weight_joined (below freed look.stamp) step steps,
            counts_first granted look.stamp step s u turn.0 early,
            counts_first freed look.stamp step s u turn.0 early,
            used_of_moves limit s u step turn.0,
          ) in
          (omega (arith, length_of_moves step s), is.1, its)

-- each grant is one of the looks
module _ (P : Look → Type 0) where
  step_grants : (step : BudgetStep) → Each P (looks_of step) → Each (OnGrant P) (moves_of step)
  step_grants (Ask look) e = granted_look P look e.0
  step_grants (GiveBack free) e = (tt, tt)

  steps_grants : (steps : List BudgetStep) → Each P (step_looks steps) → Each (OnGrant P) (step_moves steps)
  steps_grants = each_part P (OnGrant P) looks_of moves_of step_grants

-- from nothing used to nothing used: a history
pub steps_are_a_history : (limit : ℕ) (steps : List BudgetStep) (end : ℕ) → IsInTurn limit steps 0 0 end 0 → IsOneHistory limit 0 (step_moves steps) (step_looks steps)
steps_are_a_history limit steps end turn =
    let count : end ≡ 0 + length (step_moves steps) = stamps_count limit steps 0 0 end 0 turn in
    let once = λ (n : ℕ). stands_once limit n steps 0 0 end 0 turn ∙ ap (λ (e : ℕ). once_between 0 e n) count in
    let found = each_of _ (IsTrueLook (λ n. granted_below n (step_moves steps)) (λ n. freed_below n (step_moves steps)) (0 + length (step_moves steps))) (λ look is. (omega (arith, is.1), omega (arith, is.2))) (step_looks steps) (looks_found limit steps 0 0 end 0 turn) in
    let within = λ (n : ℕ). stays_below limit limit n steps 0 0 end 0 turn (omega arith) (peak_in_room limit steps 0 0 end 0 turn (omega arith)) in
    record {
      once = once;
      found = found;
      fair = each_had_room limit (step_moves steps) once (steps_grants _ steps found) (λ n. omega (arith, within n));
      within = λ n. omega (arith, within n);
      settled = omega (arith, used_adds_up limit steps 0 0 end 0 turn);
    }

-- the moves and the looks of a book are those of its steps
asked_moves : (looks : List LookEntry) → step_moves (map Ask looks) ≡ flat_map grant_of looks
asked_moves [] = refl
asked_moves (look ∷ looks) = ap (λ (l : List BudgetMove). grant_of look ++ l) (asked_moves looks)

asked_looks : (looks : List LookEntry) → step_looks (map Ask looks) ≡ map (λ look. look.look) looks
asked_looks [] = refl
asked_looks (look ∷ looks) = ap (λ (l : List Look). look.look ∷ l) (asked_looks looks)

back_moves : (frees : List Free) → step_moves (map GiveBack frees) ≡ map Release frees
back_moves [] = refl
back_moves (free ∷ frees) = ap (λ (l : List BudgetMove). Release free ∷ l) (back_moves frees)

back_looks : (frees : List Free) → step_looks (map GiveBack frees) ≡ []
back_looks [] = refl
back_looks (free ∷ frees) = back_looks frees

pub moves_of_entry : (entry : CoreEntry) → step_moves (entry_steps entry) ≡ entry_moves entry
moves_of_entry entry =
    let looks = map Ask (looks_in entry.entry) in
    let frees = map GiveBack (frees_in entry.entry) in
    flat_map-append moves_of looks frees
    ∙ ap (λ (l : List BudgetMove). l ++ step_moves frees) (asked_moves (looks_in entry.entry))
    ∙ ap (λ (l : List BudgetMove). flat_map grant_of (looks_in entry.entry) ++ l) (back_moves (frees_in entry.entry))

pub looks_of_entry : (entry : CoreEntry) → step_looks (entry_steps entry) ≡ entry_looks entry
looks_of_entry entry =
    let looks = map Ask (looks_in entry.entry) in
    let frees = map GiveBack (frees_in entry.entry) in
    flat_map-append looks_of looks frees
    ∙ ap (λ (l : List Look). step_looks looks ++ l) (back_looks (frees_in entry.entry))
    ∙ append-nil (step_looks looks)
    ∙ asked_looks (looks_in entry.entry)

pub moves_of_book : (book : List CoreEntry) → step_moves (book_steps book) ≡ book_moves book
moves_of_book [] = refl
moves_of_book (entry ∷ book) =
    flat_map-append moves_of (entry_steps entry) (book_steps book)
    ∙ ap (λ (l : List BudgetMove). l ++ step_moves (book_steps book)) (moves_of_entry entry)
    ∙ ap (λ (l : List BudgetMove). entry_moves entry ++ l) (moves_of_book book)

pub looks_of_book : (book : List CoreEntry) → step_looks (book_steps book) ≡ book_looks book
looks_of_book [] = refl
looks_of_book (entry ∷ book) =
    flat_map-append looks_of (entry_steps entry) (book_steps book)
    ∙ ap (λ (l : List Look). l ++ step_looks (book_steps book)) (looks_of_entry entry)
    ∙ ap (λ (l : List Look). entry_looks entry ++ l) (looks_of_book book)

pub book_steps_grow : (book : List CoreEntry) (entry : CoreEntry) → book_steps (book ++ entry ∷ []) ≡ book_steps book ++ entry_steps entry
book_steps_grow book entry = flat_map-append entry_steps book (entry ∷ []) ∙ ap (λ (l : List BudgetStep). book_steps book ++ l) (append-nil (entry_steps entry))

pub book_is_a_history : (limit : ℕ) (book : List CoreEntry) (end : ℕ) → IsInTurn limit (book_steps book) 0 0 end 0 → IsOneHistory limit 0 (book_moves book) (book_looks book)
book_is_a_history limit book end turn =
    let over_steps = steps_are_a_history limit (book_steps book) end turn in
    let over_moves = subst (λ (m : List BudgetMove). IsOneHistory limit 0 m (step_looks (book_steps book))) (moves_of_book book) over_steps in
    subst (λ (l : List Look). IsOneHistory limit 0 (book_moves book) l) (looks_of_book book) over_moves

pub core_is_a_history : (limit : ℕ) (journal : Journal) (book : List CoreEntry) (end : ℕ) → journal.cores ≡ book ∷ [] → IsInTurn limit (book_steps book) 0 0 end 0 → IsBudgetHistory limit journal
core_is_a_history limit journal book end one turn =
    let over_book = book_is_a_history limit book end turn in
    let over_moves = subst (λ (m : List BudgetMove). IsOneHistory limit 0 m (book_looks book)) (sym (append-nil (book_moves book))) over_book in
    let over_books = subst (λ (l : List Look). IsOneHistory limit 0 (book_moves book ++ []) l) (sym (append-nil (book_looks book))) over_moves in
    subst (λ (books : List (List CoreEntry)). IsOneHistory limit 0 (flat_map book_moves books) (flat_map book_looks books)) (sym one) over_books

-- the peak

module _ (limit : ℕ) where
  -- what bounds the used number before each stamp bounds the peak
  peak_least : (bound : ℕ) (steps : List BudgetStep) (s u s' u' : ℕ) → IsInTurn limit steps s u s' u'
      → ((n : ℕ) → n ≤ s' → u + granted_below n (step_moves steps) ≤ bound + freed_below n (step_moves steps)) → peak_along steps u ≤ bound
  peak_least bound [] s u s' u' turn bounds = omega arith
  peak_least bound (step ∷ steps) s u s' u' turn bounds =
      let now = now_bound in
      let later = peak_least bound steps (stamp_behind step s) (used_behind step u) s' u' turn.1 (λ n h. later_bound n h (nat_lt n (stamp_behind step s)) refl) in
      omega (arith, now, later)
    where
      now_bound : used_behind step u ≤ bound
      now_bound =
          let t = stamp_behind step s in
          let v = used_behind step u in
          let end : stamp_behind step s ≤ s' = stamps_never_fall limit steps t v s' u' turn.1 in
          omega (
            arith,
            bounds t end,
            weight_joined (below granted t) step steps,
            weight_joined (below freed t) step steps,
            counts_first limit granted t step s u turn.0 (omega arith),
            counts_first limit freed t step s u turn.0 (omega arith),
            none_before limit granted t steps t v s' u' turn.1 (omega arith),
            none_before limit freed t steps t v s' u' turn.1 (omega arith),
            used_of_moves limit s u step turn.0,
          )

      later_bound : (n : ℕ) → n ≤ s' → (b : Bool) → nat_lt n (stamp_behind step s) ≡ b → used_behind step u + granted_below n (step_moves steps) ≤ bound + freed_below n (step_moves steps)
      later_bound n h true e =
          let before : n ≤ stamp_behind step s = grind (arith, nat_tests) in
          omega (
            arith,
            now_bound,
            none_before limit granted n steps (stamp_behind step s) (used_behind step u) s' u' turn.1 before,
            none_before limit freed n steps (stamp_behind step s) (used_behind step u) s' u' turn.1 before,
          )
      later_bound n h false e =
          let early : stamp_behind step s ≤ n = grind (arith, nat_tests) in
          omega (
            arith,
            bounds n h,
            weight_joined (below granted n) step steps,
            weight_joined (below freed n) step steps,
            counts_first limit granted n step s u turn.0 early,
            counts_first limit freed n step s u turn.0 early,
            used_of_moves limit s u step turn.0,
          )

  pub peak_append : (steps more : List BudgetStep) (s u t v : ℕ) → IsInTurn limit steps s u t v → peak_along (steps ++ more) u ≡ max (peak_along steps u) (peak_along more v)
  peak_append [] more s u t v turn = let same = ap (λ (n : ℕ). peak_along more n) turn.1 in omega (arith, same)
  peak_append (step ∷ steps) more s u t v turn = omega (arith, peak_append steps more (stamp_behind step s) (used_behind step u) t v turn.1)

pub kept_is_peak : (steps : List BudgetStep) (used high : ℕ) → kept_peak steps used high ≡ max high (peak_along steps used)
kept_is_peak [] used high = omega arith
kept_is_peak (step ∷ steps) used high = omega (arith, kept_is_peak steps (used_behind step used) (max high (used_behind step used)))

below_peak : (moves : List BudgetMove) (k n : ℕ) → k < n → granted_below (suc k) moves ≤ peak_below moves n + freed_below (suc k) moves
below_peak moves k zero h = absurd (omega arith)
below_peak moves k (suc n) h = by_test (below_peak moves k n) (nat_lt k n) refl
  where
    by_test : (k < n → granted_below (suc k) moves ≤ peak_below moves n + freed_below (suc k) moves) → (b : Bool) → nat_lt k n ≡ b
        → granted_below (suc k) moves ≤ peak_below moves (suc n) + freed_below (suc k) moves
    by_test earlier true e = let less : k < n = grind (arith, nat_tests) in omega (arith, earlier less)
    by_test earlier false e =
        let same : k ≡ n = grind (arith, nat_tests) in
        let here : granted_below (suc k) moves ≤ peak_below moves (suc k) + freed_below (suc k) moves = omega arith in
        subst (λ (m : ℕ). granted_below (suc k) moves ≤ peak_below moves (suc m) + freed_below (suc k) moves) same here

peak_at_most : (bound : ℕ) (moves : List BudgetMove) → ((n : ℕ) → granted_below n moves ≤ bound + freed_below n moves) → (n : ℕ) → peak_below moves n ≤ bound
peak_at_most bound moves bounds zero = omega arith
peak_at_most bound moves bounds (suc n) = omega (arith, bounds (suc n), peak_at_most bound moves bounds n)

pub peak_of_moves : (limit : ℕ) (steps : List BudgetStep) (s' u' : ℕ) → IsInTurn limit steps 0 0 s' u' → peak (step_moves steps) ≡ peak_along steps 0
peak_of_moves limit steps s' u' turn =
    let most : peak_along steps 0 ≤ peak (step_moves steps) = peak_least limit (peak (step_moves steps)) steps 0 0 s' u' turn bounds in
    let least : peak (step_moves steps) ≤ peak_along steps 0 = peak_at_most (peak_along steps 0) (step_moves steps) sums (length (step_moves steps)) in
    omega arith
  where
    bounds : (n : ℕ) → n ≤ s' → 0 + granted_below n (step_moves steps) ≤ peak (step_moves steps) + freed_below n (step_moves steps)
    bounds zero h = omega (arith, none_before limit granted 0 steps 0 0 s' u' turn (omega arith))
    bounds (suc k) h =
        let inside : k < length (step_moves steps) = omega (arith, stamps_count limit steps 0 0 s' u' turn) in
        omega (arith, below_peak (step_moves steps) k (length (step_moves steps)) inside)

    sums : (n : ℕ) → granted_below n (step_moves steps) ≤ peak_along steps 0 + freed_below n (step_moves steps)
    sums n = omega (arith, stays_below limit (peak_along steps 0) n steps 0 0 s' u' turn (omega arith) (omega arith))

-- the order of the stamps

module _ (limit : ℕ) where
  found_present : (step : BudgetStep) (s u : ℕ) → IsDoneAt limit step s u → found_stamp step ≡ s
  found_present (Ask look) s u done = done.0
  found_present (GiveBack free) s u done = done.0

  move_rises : (step : BudgetStep) (s : ℕ) → IsMove step → stamp_behind step s ≡ suc s
  move_rises (Ask look) s move = by_test look.granted move
    where
      by_test : (b : Bool) → b ≡ true → (if b then suc s else s) ≡ suc s
      by_test true e = refl
      by_test false e = (cc)
  move_rises (GiveBack free) s move = refl

  pub none_earlier : (steps : List BudgetStep) (s u s' u' : ℕ) → IsInTurn limit steps s u s' u' → Each (λ step. s ≤ found_stamp step) steps
  none_earlier [] s u s' u' turn = tt
  none_earlier (step ∷ steps) s u s' u' turn = (
    omega (arith, found_present step s u turn.0),
    each_of (λ later. stamp_behind step s ≤ found_stamp later) (λ later. s ≤ found_stamp later) (λ later h. omega (arith, length_of_moves step s)) steps (none_earlier steps (stamp_behind step s) (used_behind step u) s' u' turn.1),
  )

  pub steps_in_order : (steps : List BudgetStep) (s u s' u' : ℕ) → IsInTurn limit steps s u s' u' → EachPair ComesAfter steps
  steps_in_order [] s u s' u' turn = tt
  steps_in_order (step ∷ steps) s u s' u' turn = (
    each_of (λ later. stamp_behind step s ≤ found_stamp later) (ComesAfter step) after steps (none_earlier steps (stamp_behind step s) (used_behind step u) s' u' turn.1),
    steps_in_order steps (stamp_behind step s) (used_behind step u) s' u' turn.1,
  )
    where
      after : (later : BudgetStep) → stamp_behind step s ≤ found_stamp later → ComesAfter step later
      after later h = (omega (arith, found_present step s u turn.0, length_of_moves step s), λ move. omega (arith, found_present step s u turn.0, move_rises step s move))

pub pair_at : {A : Type 0} (P : A → A → Type 0) (before between behind : List A) (x y : A) → EachPair P (before ++ x ∷ between ++ y ∷ behind) → P x y
pair_at P [] between behind x y e = each_at (P x) between behind y e.0
pair_at P (z ∷ before) between behind x y e = pair_at P before between behind x y e.1

later_frees : (free : Free) (steps : List BudgetStep) → Each (ComesAfter (GiveBack free)) steps → Each (FreedAfter free) (step_frees steps)
later_frees free [] e = tt
later_frees free (Ask look ∷ steps) e = later_frees free steps e.1
later_frees free (GiveBack next ∷ steps) e = (e.0.1 tt, later_frees free steps e.1)

pub frees_rise : (steps : List BudgetStep) → EachPair ComesAfter steps → EachPair FreedAfter (step_frees steps)
frees_rise [] e = tt
frees_rise (Ask look ∷ steps) e = frees_rise steps e.1
frees_rise (GiveBack free ∷ steps) e = (later_frees free steps e.0, frees_rise steps e.1)

later_asks : (look : LookEntry) (steps : List BudgetStep) → Each (ComesAfter (Ask look)) steps → Each (AskedAfter look) (step_asks steps)
later_asks look [] e = tt
later_asks look (Ask next ∷ steps) e = (e.0, later_asks look steps e.1)
later_asks look (GiveBack free ∷ steps) e = later_asks look steps e.1

pub asks_rise : (steps : List BudgetStep) → EachPair ComesAfter steps → EachPair AskedAfter (step_asks steps)
asks_rise [] e = tt
asks_rise (Ask look ∷ steps) e = (later_asks look steps e.0, asks_rise steps e.1)
asks_rise (GiveBack free ∷ steps) e = asks_rise steps e.1

pub later_after : (limit : ℕ) (before between behind : List BudgetStep) (step later : BudgetStep) (s u s' u' : ℕ) → IsInTurn limit (before ++ step ∷ between ++ later ∷ behind) s u s' u' → ComesAfter step later
later_after limit before between behind step later s u s' u' turn =
    pair_at ComesAfter before between behind step later (steps_in_order limit (before ++ step ∷ between ++ later ∷ behind) s u s' u' turn)

pub book_peak : (limit : ℕ) (book : List CoreEntry) (s' u' : ℕ) → IsInTurn limit (book_steps book) 0 0 s' u' → (peak (book_moves book) ≡ kept_peak (book_steps book) 0 0) × (length (book_moves book) ≡ s')
book_peak limit book s' u' turn =
    let peaks = ap (λ (m : List BudgetMove). peak m) (moves_of_book book) in
    let lengths = ap (λ (m : List BudgetMove). length m) (moves_of_book book) in (
      omega (arith, peaks, peak_of_moves limit (book_steps book) s' u' turn, kept_is_peak (book_steps book) 0 0),
      omega (arith, lengths, stamps_count limit (book_steps book) 0 0 s' u' turn),
    )

-- the releases and the looks of a book are those of its steps
asked_frees : (looks : List LookEntry) → step_frees (map Ask looks) ≡ []
asked_frees [] = refl
asked_frees (look ∷ looks) = asked_frees looks

back_frees : (frees : List Free) → step_frees (map GiveBack frees) ≡ frees
back_frees [] = refl
back_frees (free ∷ frees) = ap (λ (l : List Free). free ∷ l) (back_frees frees)

asked_asks : (looks : List LookEntry) → step_asks (map Ask looks) ≡ looks
asked_asks [] = refl
asked_asks (look ∷ looks) = ap (λ (l : List LookEntry). look ∷ l) (asked_asks looks)

back_asks : (frees : List Free) → step_asks (map GiveBack frees) ≡ []
back_asks [] = refl
back_asks (free ∷ frees) = back_asks frees

pub frees_of_book : (book : List CoreEntry) → step_frees (book_steps book) ≡ book_frees book
frees_of_book [] = refl
frees_of_book (entry ∷ book) =
    let looks = map Ask (looks_in entry.entry) in
    let frees = map GiveBack (frees_in entry.entry) in
    flat_map-append frees_of (entry_steps entry) (book_steps book)
    ∙ ap (λ (l : List Free). l ++ step_frees (book_steps book)) (flat_map-append frees_of looks frees ∙ ap (λ (l : List Free). l ++ step_frees frees) (asked_frees (looks_in entry.entry)) ∙ back_frees (frees_in entry.entry))
    ∙ ap (λ (l : List Free). frees_in entry.entry ++ l) (frees_of_book book)

pub asks_of_book : (book : List CoreEntry) → step_asks (book_steps book) ≡ book_asks book
asks_of_book [] = refl
asks_of_book (entry ∷ book) =
    let looks = map Ask (looks_in entry.entry) in
    let frees = map GiveBack (frees_in entry.entry) in
    flat_map-append asks_of (entry_steps entry) (book_steps book)
    ∙ ap (λ (l : List LookEntry). l ++ step_asks (book_steps book)) (flat_map-append asks_of looks frees ∙ ap (λ (l : List LookEntry). step_asks looks ++ l) (back_asks (frees_in entry.entry)) ∙ append-nil (step_asks looks) ∙ asked_asks (looks_in entry.entry))
    ∙ ap (λ (l : List LookEntry). looks_in entry.entry ++ l) (asks_of_book book)

pub book_rises : (limit : ℕ) (book : List CoreEntry) (s u s' u' : ℕ) → IsInTurn limit (book_steps book) s u s' u' → EachPair FreedAfter (book_frees book) × EachPair AskedAfter (book_asks book)
book_rises limit book s u s' u' turn =
    let order = steps_in_order limit (book_steps book) s u s' u' turn in (
      subst (λ (l : List Free). EachPair FreedAfter l) (frees_of_book book) (frees_rise (book_steps book) order),
      subst (λ (l : List LookEntry). EachPair AskedAfter l) (asks_of_book book) (asks_rise (book_steps book) order),
    )

module _ (limit : ℕ) where
  pub in_turn_parts : (steps more : List BudgetStep) (s u s' u' : ℕ) → IsInTurn limit (steps ++ more) s u s' u' → (t : ℕ) × (v : ℕ) × IsInTurn limit steps s u t v × IsInTurn limit more t v s' u'
  in_turn_parts [] more s u s' u' turn = (s, u, (refl, refl), turn)
  in_turn_parts (step ∷ steps) more s u s' u' turn =
      let rest = in_turn_parts steps more (stamp_behind step s) (used_behind step u) s' u' turn.1 in
      (rest.0, rest.1, (turn.0, rest.2), rest.3)

  pub used_between : (steps more : List BudgetStep) (s u t v s' u' : ℕ) → IsInTurn limit steps s u t v → IsInTurn limit more t v s' u'
      → v + freed_below t (step_moves (steps ++ more)) ≡ u + granted_below t (step_moves (steps ++ more))
  used_between steps more s u t v s' u' first rest =
      let parts = flat_map-append moves_of steps more in
      omega (
        arith,
        ap (λ (m : List BudgetMove). granted_below t m) parts,
        ap (λ (m : List BudgetMove). freed_below t m) parts,
        total_append (below granted t) (step_moves steps) (step_moves more),
        total_append (below freed t) (step_moves steps) (step_moves more),
        all_behind limit granted t steps s u t v first (omega arith),
        all_behind limit freed t steps s u t v first (omega arith),
        none_before limit granted t more t v s' u' rest (omega arith),
        none_before limit freed t more t v s' u' rest (omega arith),
        used_adds_up limit steps s u t v first,
      )
