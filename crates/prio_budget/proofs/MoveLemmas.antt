-- A look, a won exchange and a release keep the rule.
use Rattle.std.proofs.Common.{◌≡◌, ◌≢◌, ◌⊎◌, ℕ, suc, ◌+◌, ◌-◌, ◌≤◌, ◌<◌, ◌==◌, cond, List, [], ◌∷◌, set, refl, ap, ◌∙◌, subst, ⊎_elim, inl, inr, arith, tests, le_refl, length-append, lt_of_not-le}
use native.Mathlib.Decide.{dec_le}
use mathlib.Core.Option.{some}
use lib.ListN.{get_elem?}
use Rattle.atomic_table.proofs.Lists.{at_set}
use Rattle.prio_budget.specs.declared.word_view.WordView.{WordView}
use Rattle.prio_budget.specs.declared.budget_move.BudgetMove.{BudgetMove}
use Rattle.prio_budget.specs.declared.budget_move.BudgetMove.TheVariants.{Grant, Release}
use Rattle.prio_budget.specs.History.{total, stamp_of, granted, freed, below, at_stamp, IsUsedBefore, IsFairMove, is_grant, is_release}
use Rattle.prio_budget.specs.WordRule.{Fits, Kept, held_of, busy, count_of, times_of, grants_of, frees_of, weight, part_weight, note_of, given_of, met_of, granted_of, released_of}
use Rattle.prio_budget.specs.WordSteps.{looked, moved}
use Rattle.prio_budget.proofs.Totals.{total_snoc, total_set, total_most, total_one}
use Rattle.prio_budget.proofs.ViewLemmas.{fits_later, each_append, once_more, below_early, below_late}

busy_most : (v : WordView) → busy v ≤ held_of v
busy_most v = grind (arith, tests)

pub not_busy : (v : WordView) → busy v ≡ 0 → v.held ≡ 0
not_busy v h = grind (arith, tests)

pub busy_none : (v : WordView) → v.held ≡ 0 → busy v ≡ 0
busy_none v h = grind (arith, tests)

busy_one : (v : WordView) → 0 < v.held → busy v ≡ 1
busy_one v h = grind (arith, tests)

le_or : (n m : ℕ) → (n ≤ m) ⊎ (m < n)
le_or n m = elim (dec_le n m) [ yes h ↦ inl h | no h ↦ inr (lt_of_not-le h) ]

pub late_or : (n : ℕ) → (2147483648 ≤ n) ⊎ (n < 2147483648)
late_or n = elim (dec_le 2147483648 n) [ yes h ↦ inl h | no h ↦ inr (lt_of_not-le h) ]

module _ (limit first stamp used : ℕ) (views : List WordView) (k : Kept limit first stamp used views) (id : ℕ) (v : WordView) (at : get_elem? views id ≡ some v) (has : 0 < v.share.0) (own : 0 < v.part.0) where
  -- look, and lost exchange
  pub looks : Kept limit first stamp used (set views id (looked stamp used v))
  looks =
      let w = looked stamp used v in
      let now : List WordView = set views id w in
      let same : (f : WordView → ℕ) → f w ≡ f v → total f now ≡ total f views = λ f h. (let e = total_set f views id v w at in omega (arith, e, h)) in
      let grants : (n : ℕ) → total (grants_of n) now ≡ total (grants_of n) views = λ n. same (grants_of n) refl in
      let frees : (n : ℕ) → total (frees_of n) now ≡ total (frees_of n) views = λ n. same (frees_of n) refl in
      let later = fits_later (λ n. total (grants_of n) views) (λ n. total (frees_of n) views) (λ n. total (grants_of n) now) (λ n. total (frees_of n) now) stamp stamp (le_refl stamp) (λ n _. grants n) (λ n _. frees n) limit k.scale k.scale in
      let mine = later v (le_refl k.scale) (k.each id v at) in
      let sums : (n : ℕ) → stamp ≤ n → IsUsedBefore (λ k. total (grants_of k) now) (λ k. total (frees_of k) now) n used = λ n h. (let s = k.sums n h in let x = grants n in let y = frees n in omega (arith, s, x, y)) in
      let fit : Fits (λ n. total (grants_of n) now) (λ n. total (frees_of n) now) limit stamp k.scale w = record {
        seen = le_refl stamp;
        looks = each_append _ v.looks (record { stamp = stamp; found = used } ∷ []) mine.looks ((le_refl stamp, sums stamp (le_refl stamp)), tt);
        moves = mine.moves;
        sized = mine.sized;
        spent = λ z. absurd (omega (arith, z, has));
        part_sized = mine.part_sized;
        bare = λ z. absurd (omega (arith, z, own));
        idle = λ z _ _. absurd (omega (arith, z, own));
      } in
      record {
        cap = k.cap;
        held = same held_of refl ∙ k.held;
        within = k.within;
        count = (let e = same count_of refl in let h = k.count in omega (arith, e, h));
        once = λ n. same (times_of n) refl ∙ k.once n;
        room = λ h. (let e = same busy refl in let r = k.room h in omega (arith, e, r));
        scale = k.scale;
        whole = same (weight k.scale) refl ∙ k.whole;
        parts = same (part_weight k.scale) refl ∙ k.parts;
        charges = (let a = same busy refl in let b = same released_of refl in let c = same granted_of refl in let e = k.charges in omega (arith, a, b, c, e));
        notes = (let a = same note_of refl in let b = same met_of refl in let c = same given_of refl in let e = k.notes in omega (arith, a, b, c, e));
        steady = λ n. (let s = k.steady n in let x = grants n in let y = frees n in omega (arith, s, x, y));
        sums = sums;
        each = λ i u e. ⊎_elim
            (λ (t : (i ≡ id) × (w ≡ u)). subst (λ (x : WordView). Fits (λ n. total (grants_of n) now) (λ n. total (frees_of n) now) limit stamp k.scale x) t.1 fit)
            (λ (t : (i ≢ id) × (get_elem? views i ≡ some u)). later u (le_refl k.scale) (k.each i u t.1))
            (at_set views id i w u e);
      }

  -- a move of one's own: won exchange, and release
  moves : (used' held' : ℕ) (move : BudgetMove) → stamp_of move ≡ stamp → held' + used ≡ v.held + used' → used' ≤ limit → used' + freed move ≡ used + granted move
      → ((grants frees : ℕ → ℕ) → IsUsedBefore grants frees stamp used → IsFairMove grants frees limit (suc stamp) move)
      → (2147483648 ≤ suc stamp → suc stamp + total busy (set views id (moved held' move v)) ≤ 2147483648 + limit)
      → total busy (set views id (moved held' move v)) + total released_of (set views id (moved held' move v)) ≡ total granted_of (set views id (moved held' move v))
      → Kept limit first (suc stamp) used' (set views id (moved held' move v))
  moves used' held' move is sum within change fair room charges =
      let w = moved held' move v in
      let now : List WordView = set views id w in
      let same : (f : WordView → ℕ) → f w ≡ f v → total f now ≡ total f views = λ f h. (let e = total_set f views id v w at in omega (arith, e, h)) in
      let grants : (n : ℕ) → total (grants_of n) now ≡ total (grants_of n) views + below granted n move = λ n. (let e = total_set (grants_of n) views id v w at in let d = total_snoc (below granted n) v.moves move in omega (arith, e, d)) in
      let frees : (n : ℕ) → total (frees_of n) now ≡ total (frees_of n) views + below freed n move = λ n. (let e = total_set (frees_of n) views id v w at in let d = total_snoc (below freed n) v.moves move in omega (arith, e, d)) in
      let early_grants : (n : ℕ) → n ≤ stamp → total (grants_of n) now ≡ total (grants_of n) views = λ n h. (let e = grants n in let d = below_early granted move n (omega (arith, h, is)) in omega (arith, e, d)) in
      let early_frees : (n : ℕ) → n ≤ stamp → total (frees_of n) now ≡ total (frees_of n) views = λ n h. (let e = frees n in let d = below_early freed move n (omega (arith, h, is)) in omega (arith, e, d)) in
      let next : stamp ≤ suc stamp = omega arith in
      let later = fits_later (λ n. total (grants_of n) views) (λ n. total (frees_of n) views) (λ n. total (grants_of n) now) (λ n. total (frees_of n) now) stamp (suc stamp) next early_grants early_frees limit k.scale k.scale in
      let mine = later v (le_refl k.scale) (k.each id v at) in
      let before : IsUsedBefore (λ n. total (grants_of n) now) (λ n. total (frees_of n) now) stamp used = (let s = k.sums stamp (le_refl stamp) in let x = early_grants stamp (le_refl stamp) in let y = early_frees stamp (le_refl stamp) in omega (arith, s, x, y)) in
      let fit : Fits (λ n. total (grants_of n) now) (λ n. total (frees_of n) now) limit (suc stamp) k.scale w = record {
        seen = (let h : stamp_of move ≡ stamp = is in omega (arith, h));
        looks = mine.looks;
        moves = each_append _ v.moves (move ∷ []) mine.moves (fair (λ n. total (grants_of n) now) (λ n. total (frees_of n) now) before, tt);
        sized = mine.sized;
        spent = λ z. absurd (omega (arith, z, has));
        part_sized = mine.part_sized;
        bare = λ z. absurd (omega (arith, z, own));
        idle = λ z _ _. absurd (omega (arith, z, own));
      } in
      let sums : (n : ℕ) → suc stamp ≤ n → IsUsedBefore (λ k. total (grants_of k) now) (λ k. total (frees_of k) now) n used' = λ n h. (let s = k.sums n (omega (arith, h)) in let x = grants n in let y = frees n in
      let a = below_late granted move n (omega (arith, h, is)) in let b = below_late freed move n (omega (arith, h, is)) in omega (arith, s, x, y, a, b, change)) in
      record {
        cap = k.cap;
        held = (let e = total_set held_of views id v w at in let h = k.held in omega (arith, e, h, sum));
        within = within;
        count = (let e = total_set count_of views id v w at in let d = length-append v.moves (move ∷ []) in let h = k.count in omega (arith, e, d, h));
        once = λ n. (let e = total_set (times_of n) views id v w at in let d = total_snoc (at_stamp n) v.moves move in let h = k.once n in let c = k.count in
            let m : first ≤ stamp = omega (arith, c) in let o = once_more first stamp n m in let a : at_stamp n move ≡ cond (stamp == n) 1 0 = ap (λ (s : ℕ). cond (s == n) 1 0) is in
            omega (arith, e, d, h, o, a));
        room = room;
        scale = k.scale;
        whole = same (weight k.scale) refl ∙ k.whole;
        parts = same (part_weight k.scale) refl ∙ k.parts;
        charges = charges;
        notes = (let a = same note_of refl in let b = same met_of refl in let c = same given_of refl in let e = k.notes in omega (arith, a, b, c, e));
        steady = λ n. ⊎_elim (λ (h : n ≤ stamp). (let s = k.steady n in let x = early_grants n h in let y = early_frees n h in omega (arith, s, x, y))) (λ (h : stamp < n). (let s = sums n (omega (arith, h)) in omega (arith, s, within))) (le_or n stamp);
        sums = sums;
        each = λ i u e. ⊎_elim
            (λ (t : (i ≡ id) × (w ≡ u)). subst (λ (x : WordView). Fits (λ n. total (grants_of n) now) (λ n. total (frees_of n) now) limit (suc stamp) k.scale x) t.1 fit)
            (λ (t : (i ≢ id) × (get_elem? views i ≡ some u)). later u (le_refl k.scale) (k.each i u t.1))
            (at_set views id i w u e);
      }

  pub grants : (asked : ℕ) → 0 < asked → v.held ≡ 0 → stamp < 2147483648 → used + asked ≤ limit → Kept limit first (suc stamp) (used + asked) (set views id (moved asked (Grant (record { stamp = stamp; found = used }) asked) v))
  grants asked some_asked none early within =
      let move : BudgetMove = Grant (record { stamp = stamp; found = used }) asked in
      let w = moved asked move v in
      let most : total busy (set views id w) ≤ total held_of (set views id w) = total_most busy held_of (set views id w) busy_most in
      let e = total_set held_of views id v w at in
      let h = k.held in
      moves (used + asked) asked move refl (omega (arith, none)) within (omega arith) (λ grants frees before. (omega arith, before, within)) (λ late. omega (arith, most, e, h, none, early, within, late))
      (let b = total_set busy views id v w at in let r = total_set released_of views id v w at in let g = total_set granted_of views id v w at in
      let rs = total_snoc is_release v.moves move in let gs = total_snoc is_grant v.moves move in let c = k.charges in
      let zero_busy = busy_none v none in let one = busy_one w some_asked in omega (arith, b, r, g, rs, gs, c, zero_busy, one))

  pub releases : 0 < v.held → Kept limit first (suc stamp) (used - v.held) (set views id (moved 0 (Release (record { stamp = stamp; bytes = v.held })) v))
  releases full =
      let move : BudgetMove = Release (record { stamp = stamp; bytes = v.held }) in
      let w = moved 0 move v in
      let fits : v.held ≤ used = (let o = total_one held_of views id v at in let h = k.held in omega (arith, o, h)) in
      let most : total busy (set views id w) ≤ total held_of (set views id w) = total_most busy held_of (set views id w) busy_most in
      let e = total_set held_of views id v w at in
      let b = total_set busy views id v w at in
      let one = busy_one v full in
      let h = k.held in
      let within = k.within in
      moves (used - v.held) 0 move refl (omega (arith, fits)) (omega (arith, within)) (omega (arith, fits)) (λ grants frees before. omega arith)
      (λ late. ⊎_elim (λ (now : 2147483648 ≤ stamp). (let r = k.room now in omega (arith, r, b, one)))
      (λ (early : stamp < 2147483648). omega (arith, most, e, h, within, early, late, fits)) (late_or stamp))
      (let r = total_set released_of views id v w at in let g = total_set granted_of views id v w at in
      let rs = total_snoc is_release v.moves move in let gs = total_snoc is_grant v.moves move in let c = k.charges in omega (arith, b, r, g, rs, gs, c, one))
