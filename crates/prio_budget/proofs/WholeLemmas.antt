-- Who has the whole share knows all moves and looks.
use Rattle.std.proofs.Common.{◌≡◌, ◌≢◌, ℕ, ◌+◌, ◌*◌, ◌-◌, ◌^◌, ◌≤◌, List, [], ◌∷◌, length, refl, sym, ap, ◌∙◌, subst, subst₂, arith, pow-add, le_refl, le_of_eq, zero-mul, pow_pos}
use Rattle.std.specs.Prelude.{slice_index}
use mathlib.Core.Option.{some, none, some-injective}
use lib.ListN.{get_elem?}
use Rattle.atomic_table.specs.Table.{Me, step, keeps, Allows, Seen, Final}
use Rattle.atomic_table.proofs.Lists.{set_again}
use Rattle.prio_budget.specs.declared.word_view.WordView.{WordView}
use Rattle.prio_budget.specs.declared.budget_move.BudgetMove.{BudgetMove}
use Rattle.prio_budget.specs.declared.budget_move.BudgetMove.TheVariants.{Grant, Release}
use Rattle.prio_budget.specs.Share.{IsWhole}
use Rattle.prio_budget.specs.History.{total, granted, freed, below, at_stamp, once_between, granted_below, freed_below, IsFairMove, Each, is_grant, is_release, IsOneHistory}
use Rattle.prio_budget.specs.WordRule.{Kept, Holds, IsSpent, held_of, count_of, times_of, grants_of, frees_of, weight, part_weight, busy, note_of, given_of, met_of, granted_of, released_of, IsBare, stamp_in, used_in}
use Rattle.prio_budget.specs.WordParts.{IsAllIn}
use Rattle.prio_budget.specs.WordSteps.{Checked, home_in}
use Rattle.prio_budget.proofs.Totals.{total_only, total_two, total_one}
use Rattle.prio_budget.proofs.ViewLemmas.{fits_later, below_late}
use Rattle.prio_budget.proofs.SplitLemmas.{no_parts}
use Rattle.prio_budget.proofs.ShareLemmas.{cancel}
use Rattle.prio_budget.proofs.MoveLemmas.{not_busy}
use Rattle.prio_budget.proofs.StepLemmas.{word_of, one_word}

-- where all moves are below a stamp, their sum below it is their sum
below_all : (bytes : BudgetMove → ℕ) (grants frees : ℕ → ℕ) (limit now : ℕ) (moves : List BudgetMove) → Each (IsFairMove grants frees limit now) moves → total (below bytes now) moves ≡ total bytes moves
below_all bytes grants frees limit now [] e = refl
below_all bytes grants frees limit now (Grant look n ∷ moves) e = let a = below_late bytes (Grant look n) now e.0.0 in let b = below_all bytes grants frees limit now moves e.1 in omega (arith, a, b)
below_all bytes grants frees limit now (Release free ∷ moves) e = let a = below_late bytes (Release free) now e.0 in let b = below_all bytes grants frees limit now moves e.1 in omega (arith, a, b)

module _ (limit first stamp used : ℕ) (views : List WordView) (k : Kept limit first stamp used views) (id : ℕ) (v : WordView) (at : get_elem? views id ≡ some v) (whole : IsWhole v.share) where
  others : (j : ℕ) (u : WordView) → j ≢ id → get_elem? views j ≡ some u → IsSpent u
  others j u n e =
      let sized : v.share.1 ≤ k.scale = (k.each id v at).sized in
      let mine : weight k.scale v ≡ 2 ^ k.scale = ap (λ (p : ℕ). p * 2 ^ (k.scale - v.share.1)) whole ∙ sym (pow-add 2 v.share.1 (k.scale - v.share.1)) ∙ ap (λ (p : ℕ). 2 ^ p) (omega (arith, sized)) in
      let two = total_two (weight k.scale) views id j v u n at e in
      let all = k.whole in
      let none_left : weight k.scale u ≡ 0 = omega (arith, two, all, mine) in
      (k.each j u e).spent (no_parts u.share.0 (k.scale - u.share.1) none_left)

  only : (f : WordView → ℕ) → ((u : WordView) → IsSpent u → f u ≡ 0) → total f views ≡ f v
  only f z = total_only f views id v at (λ j u n e. z u (others j u n e))

  pub counted : first + length v.moves ≡ stamp
  counted = let c = k.count in let o = only count_of (λ u s. ap length s.moves) in omega (arith, c, o)

  pub empty_used : v.held ≡ 0 → used ≡ 0
  empty_used h = sym k.held ∙ only held_of (λ u s. s.held) ∙ h

  pub one_history : v.held ≡ 0 → IsOneHistory limit first v.moves v.looks
  one_history bare =
      let grants : (n : ℕ) → granted_below n v.moves ≡ total (grants_of n) views = λ n. sym (only (grants_of n) (λ u s. ap (granted_below n) s.moves)) in
      let frees : (n : ℕ) → freed_below n v.moves ≡ total (frees_of n) views = λ n. sym (only (frees_of n) (λ u s. ap (freed_below n) s.moves)) in
      let late : stamp ≤ first + length v.moves = le_of_eq (sym counted) in
      let fits = fits_later (λ n. total (grants_of n) views) (λ n. total (frees_of n) views) (λ n. granted_below n v.moves) (λ n. freed_below n v.moves) stamp (first + length v.moves) late (λ n _. grants n) (λ n _. frees n) limit k.scale k.scale v (le_refl k.scale) (k.each id v at) in
      let now : ℕ = first + length v.moves in
      record {
        once = λ n. sym (only (times_of n) (λ u s. ap (total (at_stamp n)) s.moves)) ∙ k.once n ∙ ap (λ (e : ℕ). once_between first e n) (sym counted);
        found = fits.looks;
        fair = fits.moves;
        within = λ n. (let s = k.steady n in let g = grants n in let f = frees n in omega (arith, s, g, f));
        settled = (
            let s = k.sums now late in
            let g = grants now in
            let f = frees now in
            let u = empty_used bare in
            let a = below_all granted (λ n. granted_below n v.moves) (λ n. freed_below n v.moves) limit now v.moves fits.moves in
            let b = below_all freed (λ n. granted_below n v.moves) (λ n. freed_below n v.moves) limit now v.moves fits.moves in
            omega (arith, s, g, f, u, a, b));
      }

-- The whole share follows where all homes came in, as many charges were released as granted, and as many notes met as given
module _ (limit first stamp used : ℕ) (views : List WordView) (k : Kept limit first stamp used views) (id : ℕ) (v : WordView) (at : get_elem? views id ≡ some v) (in_ : IsAllIn (home_in v)) (empty : v.held ≡ 0) (no_note : v.note ≡ 0) where
  partless : (j : ℕ) (u : WordView) → j ≢ id → get_elem? views j ≡ some u → u.part.0 ≡ 0
  partless j u n e =
      let sized : v.part.1 ≤ k.scale = (k.each id v at).part_sized in
      let mine : part_weight k.scale v ≡ 2 ^ k.scale = ap (λ (p : ℕ). p * 2 ^ (k.scale - v.part.1)) in_.homes ∙ sym (pow-add 2 v.part.1 (k.scale - v.part.1)) ∙ ap (λ (p : ℕ). 2 ^ p) (omega (arith, sized)) in
      let two = total_two (part_weight k.scale) views id j v u n at e in
      let all = k.parts in
      let none_left : part_weight k.scale u ≡ 0 = omega (arith, two, all, mine) in
      no_parts u.part.0 (k.scale - u.part.1) none_left

  bared : (f : WordView → ℕ) → ((u : WordView) → IsBare u → f u ≡ 0) → total f views ≡ f v
  bared f z = total_only f views id v at (λ j u n e. z u ((k.each j u e).bare (partless j u n e)))

  none_busy : total busy views ≡ 0
  none_busy = let c = k.charges in let g = bared granted_of (λ u b. ap (total is_grant) b.moves) in let r = bared released_of (λ u b. ap (total is_release) b.moves) in let e = in_.charges in omega (arith, c, g, r, e)

  no_notes : total note_of views ≡ 0
  no_notes = let c = k.notes in let g = bared given_of (λ u b. b.given) in let m = bared met_of (λ u b. b.met) in let e = in_.notes in omega (arith, c, g, m, e)

  shareless : (j : ℕ) (u : WordView) → j ≢ id → get_elem? views j ≡ some u → weight k.scale u ≡ 0
  shareless j u n e =
      let b = total_one busy views j u e in
      let idle_busy : busy u ≡ 0 = (let z = none_busy in omega (arith, b, z)) in
      let m = total_one note_of views j u e in
      let note : u.note ≡ 0 = (let z = no_notes in omega (arith, m, z)) in
      let none_left = (k.each j u e).idle (partless j u n e) (not_busy u idle_busy) note in
      ap (λ (p : ℕ). p * 2 ^ (k.scale - u.share.1)) none_left ∙ zero-mul (2 ^ (k.scale - u.share.1))

  pub all_in : IsWhole v.share
  all_in =
      let sized : v.share.1 ≤ k.scale = (k.each id v at).sized in
      let mine : weight k.scale v ≡ 2 ^ k.scale = sym (total_only (weight k.scale) views id v at shareless) ∙ k.whole in
      let cut : 2 ^ k.scale ≡ 2 ^ v.share.1 * 2 ^ (k.scale - v.share.1) = ap (λ (p : ℕ). 2 ^ p) (omega (arith, sized)) ∙ pow-add 2 v.share.1 (k.scale - v.share.1) in
      cancel v.share.0 (2 ^ v.share.1) (2 ^ (k.scale - v.share.1)) (pow_pos (k.scale - v.share.1)) (mine ∙ cut)

module _ (limit first : ℕ) where
  pub checks_as : (slots id : ℕ) (v : Me (Unit {0}) WordView) → Allows (Holds limit first) slots id v 0 (λ n. n) (Checked limit first (step slots 0 0 0 none) v)
  checks_as slots id v s h homes at fits =
      let n : ℕ = slice_index s.words 0 in
      let k = word_of limit first s h in
      (v.0, keeps, tt, (n, one_word limit first s h n, subst (λ (l : List WordView). Kept limit first (stamp_in n) (used_in n) l) (sym (set_again s.views id v.0 at)) k), (refl, λ bare whole. one_history limit first (stamp_in n) (used_in n) s.views k id v.0 at whole bare, λ bare note all. all_in limit first (stamp_in n) (used_in n) s.views k id v.0 at all bare note))

  pub checks_at : (slots id : ℕ) (v : Me (Unit {0}) WordView) (named_limit named_first : ℕ) → limit ≡ named_limit → first ≡ named_first → Allows (Holds limit first) slots id v 0 (λ n. n) (Checked named_limit named_first (step slots 0 0 0 none) v)
  checks_at slots id v named_limit named_first a b = subst₂ (λ (x y : ℕ). Allows (Holds limit first) slots id v 0 (λ n. n) (Checked x y (step slots 0 0 0 none) v)) a b (checks_as slots id v)

  -- the end, at the whole share
  pub closes : (id : ℕ) (v : WordView) (words : List ℕ) (slots : List (Unit {0})) (word : ℕ) → IsWhole v.share → v.held ≡ 0 → Final (Seen (Holds limit first) id v) words slots → get_elem? words 0 ≡ some word
      → (stamp_in word ≡ first + length v.moves) × (used_in word ≡ 0) × IsOneHistory limit first v.moves v.looks
  closes id v words slots word whole bare end there =
      let s = end.0 in
      let h = end.1.0 in
      let at = end.1.1 in
      let is : h.0 ≡ word = some-injective h.0 word (ap (λ (ws : List ℕ). get_elem? ws 0) (sym h.1 ∙ end.2) ∙ there) in
      let k : Kept limit first (stamp_in word) (used_in word) s.views = subst (λ (n : ℕ). Kept limit first (stamp_in n) (used_in n) s.views) is h.2 in
      (sym (counted limit first (stamp_in word) (used_in word) s.views k id v at whole), empty_used limit first (stamp_in word) (used_in word) s.views k id v at whole bare, one_history limit first (stamp_in word) (used_in word) s.views k id v at whole bare)
