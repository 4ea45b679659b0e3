-- A split and a join keep the rule.
use Rattle.std.proofs.Common.{◌≡◌, ◌≢◌, ◌⊎◌, ℕ, suc, ◌+◌, ◌*◌, ◌-◌, ◌^◌, ◌≤◌, ◌<◌, max, cond, nat_lt, List, [], ◌∷◌, ◌++◌, set, refl, sym, ap, ◌∙◌, subst, ⊎_elim, inl, inr, arith, tests, le_refl, length-append, pow_pos, pow-add, pow-suc, mul_left_comm, mul-pos, eq-zero-or-pos}
use mathlib.Core.Option.{some}
use lib.ListN.{get_elem?}
use Rattle.atomic_table.proofs.Lists.{at_set, at_snoc, set_else}
use Rattle.prio_budget.specs.declared.word_view.WordView.{WordView}
use Rattle.prio_budget.specs.Share.{Share, share_sum, half, parts_at}
use Rattle.prio_budget.specs.History.{total, granted, freed, below, at_stamp, is_grant, is_release}
use Rattle.prio_budget.specs.WordRule.{IsSpent, Fits, Kept, held_of, busy, count_of, times_of, grants_of, frees_of, weight, part_weight, note_of, given_of, met_of, granted_of, released_of}
use Rattle.prio_budget.specs.WordSteps.{kept_part, given_part, joined, nobody}
use Rattle.prio_budget.proofs.Totals.{total_split, total_join, total_times, total_append, total_snoc, total_set}
use Rattle.prio_budget.proofs.ViewLemmas.{fits_later, each_append}

-- a finer scale
pub finer : (scale k : ℕ) (a : Share) → a.1 ≤ scale → parts_at (k + scale) a ≡ 2 ^ k * parts_at scale a
finer scale k a h =
    let split : 2 ^ (k + scale - a.1) ≡ 2 ^ k * 2 ^ (scale - a.1) = ap (λ (n : ℕ). 2 ^ n) (omega arith) ∙ pow-add 2 k (scale - a.1) in
    ap (λ (n : ℕ). a.0 * n) split ∙ mul_left_comm a.0 (2 ^ k) (2 ^ (scale - a.1))

twice : (n x y : ℕ) → y ≡ x * 2 → n * x + n * x ≡ n * y
twice n x y e = omega (arith, ap (λ (k : ℕ). n * k) e)

-- both halves at the finer scale are the whole
halves : (scale : ℕ) (a : Share) → a.1 ≤ scale → parts_at (suc scale) (half a) + parts_at (suc scale) (half a) ≡ parts_at (suc scale) a
halves scale a h =
    let more : suc scale - a.1 ≡ suc (suc scale - suc a.1) = omega arith in
    twice a.0 (2 ^ (suc scale - suc a.1)) (2 ^ (suc scale - a.1)) (ap (λ (n : ℕ). 2 ^ n) more ∙ pow-suc 2 (suc scale - suc a.1))

share_out : (n m f e x y z : ℕ) → f * x ≡ y → e * x ≡ z → (n * f + m * e) * x ≡ n * y + m * z
share_out n m f e x y z p q = omega (arith, ap (λ (k : ℕ). n * k) p, ap (λ (k : ℕ). m * k) q)

-- the parts of a sum, where the scale has room for it
sum_parts : (scale : ℕ) (a b : Share) → a.1 ≤ scale → b.1 ≤ scale → parts_at (scale + scale) (share_sum a b) ≡ parts_at (scale + scale) a + parts_at (scale + scale) b
sum_parts scale a b h k =
    let rest : ℕ = scale + scale - (a.1 + b.1) in
    let one : 2 ^ b.1 * 2 ^ rest ≡ 2 ^ (scale + scale - a.1) = sym (pow-add 2 b.1 rest) ∙ ap (λ (n : ℕ). 2 ^ n) (omega arith) in
    let two : 2 ^ a.1 * 2 ^ rest ≡ 2 ^ (scale + scale - b.1) = sym (pow-add 2 a.1 rest) ∙ ap (λ (n : ℕ). 2 ^ n) (omega arith) in
    share_out a.0 b.0 (2 ^ b.1) (2 ^ a.1) (2 ^ rest) (2 ^ (scale + scale - a.1)) (2 ^ (scale + scale - b.1)) one two

-- where a share is cut from the whole, the finer sum is the whole again
finer_whole : (scale k : ℕ) (views : List WordView) → ((i : ℕ) (v : WordView) → get_elem? views i ≡ some v → v.share.1 ≤ scale) → total (weight scale) views ≡ 2 ^ scale → total (weight (k + scale)) views ≡ 2 ^ (k + scale)
finer_whole scale k views sized whole =
    total_times (weight (k + scale)) (weight scale) (2 ^ k) views (λ i v e. finer scale k v.share (sized i v e)) ∙ ap (λ (n : ℕ). 2 ^ k * n) whole ∙ sym (pow-add 2 k scale)

finer_parts : (scale k : ℕ) (views : List WordView) → ((i : ℕ) (v : WordView) → get_elem? views i ≡ some v → v.part.1 ≤ scale) → total (part_weight scale) views ≡ 2 ^ scale → total (part_weight (k + scale)) views ≡ 2 ^ (k + scale)
finer_parts scale k views sized whole =
    total_times (part_weight (k + scale)) (part_weight scale) (2 ^ k) views (λ i v e. finer scale k v.part (sized i v e)) ∙ ap (λ (n : ℕ). 2 ^ k * n) whole ∙ sym (pow-add 2 k scale)

-- what a cut has to be: a and b are held, p and q are the parts, x is a note given
pub record IsCut (v : WordView) (a b : ℕ) (p q : Share) (x g : ℕ) : Type 0 where
  pub sum : a + b ≡ v.held
  pub one : (a ≡ 0) ⊎ (b ≡ 0)
  pub given : g ≡ v.given + x
  pub own : 0 < p.0
  pub live : q.0 ≡ 0 → b ≡ 0 → x ≡ 0 → ⊥
  pub sized_p : p.1 ≤ suc v.part.1
  pub sized_q : q.1 ≤ suc v.part.1
  pub parts : (s : ℕ) → v.part.1 ≤ s → parts_at (suc s) p + parts_at (suc s) q ≡ parts_at (suc s) v.part

pub home_cut : (v : WordView) → 0 < v.part.0 → IsCut v v.held 0 (half v.part) (half v.part) 0 v.given
home_cut v own = record { sum = omega arith; one = inr refl; given = omega arith; own = own; live = λ z _ _. omega (arith, z, own); sized_p = omega arith; sized_q = omega arith; parts = λ s h. halves s v.part h }

pub note_cut : (v : WordView) → 0 < v.part.0 → IsCut v v.held 0 v.part (0, 0) 1 (suc v.given)
note_cut v own = record { sum = omega arith; one = inr refl; given = omega arith; own = own; live = λ _ _ n. omega (arith, n); sized_p = omega arith; sized_q = omega arith; parts = λ s h. omega arith }

pub charge_cut : (v : WordView) → 0 < v.part.0 → 0 < v.held → IsCut v 0 v.held v.part (0, 0) 0 v.given
charge_cut v own full = record { sum = omega arith; one = inl refl; given = omega arith; own = own; live = λ _ n _. omega (arith, n, full); sized_p = omega arith; sized_q = omega arith; parts = λ s h. omega arith }

busy_parts : (v : WordView) (a b : ℕ) → a + b ≡ v.held → (a ≡ 0) ⊎ (b ≡ 0) → cond (nat_lt 0 a) 1 0 + cond (nat_lt 0 b) 1 0 ≡ busy v
busy_parts v a b e (inl z) = let c : b ≡ v.held = omega (arith, e, z) in (λ i. cond (nat_lt 0 (z i)) 1 0 + cond (nat_lt 0 (c i)) 1 0) ∙ omega arith
busy_parts v a b e (inr z) = let c : a ≡ v.held = omega (arith, e, z) in (λ i. cond (nat_lt 0 (c i)) 1 0 + cond (nat_lt 0 (z i)) 1 0) ∙ omega arith

max_le : (a b n : ℕ) → a ≤ n → b ≤ n → max a b ≤ n
max_le a b n h k = omega arith

busy_sum : (a b : ℕ) → cond (nat_lt 0 (a + b)) 1 0 ≤ cond (nat_lt 0 a) 1 0 + cond (nat_lt 0 b) 1 0
busy_sum a b = grind (arith, tests)

-- a sum with a share is a share
pub share_some : (a b : Share) → 0 < a.0 → 0 < (share_sum a b).0
share_some a b h = let p : 0 < a.0 * 2 ^ b.1 = mul-pos h (pow_pos b.1) in omega (arith, p)

busy_joined : (a b : ℕ) → a ≡ 0 → cond (nat_lt 0 (a + b)) 1 0 + 0 ≡ cond (nat_lt 0 a) 1 0 + cond (nat_lt 0 b) 1 0
busy_joined a b h = grind (arith, tests)

pub no_parts : (n f : ℕ) → n * 2 ^ f ≡ 0 → n ≡ 0
no_parts n f e = ⊎_elim (λ z. z) (λ p. absurd (let q : 0 < n * 2 ^ f = mul-pos p (pow_pos f) in omega (arith, q, e))) (eq-zero-or-pos n)

spent_both : (v w : WordView) → (v.share.0 ≡ 0 → IsSpent v) → (w.share.0 ≡ 0 → IsSpent w) → (joined v w).share.0 ≡ 0 → IsSpent (joined v w)
spent_both v w h k z =
    let a = h (no_parts v.share.0 w.share.1 (omega (arith, z))) in
    let b = k (no_parts w.share.0 v.share.1 (omega (arith, z))) in
    record { held = (let x = a.held in let y = b.held in omega (arith, x, y)); moves = (λ i. a.moves i ++ b.moves i); looks = (λ i. a.looks i ++ b.looks i) }

module _ (limit first stamp used : ℕ) (views : List WordView) (k : Kept limit first stamp used views) where
  -- split
  pub splits : (id : ℕ) (v : WordView) (a b : ℕ) (p q : Share) (x g : ℕ) → IsCut v a b p q x g → get_elem? views id ≡ some v → Kept limit first stamp used (set views id (kept_part a p g v) ++ given_part b q x v ∷ [])
  splits id v a b p q x g cut at =
      let sum = cut.sum in let one = cut.one in
      let left = kept_part a p g v in let right = given_part b q x v in
      let now : List WordView = set views id left ++ right ∷ [] in
      let same : (f : WordView → ℕ) → f left + f right ≡ f v → total f now ≡ total f views = λ f h. total_split f views id v left right at h in
      let grants : (n : ℕ) → total (grants_of n) now ≡ total (grants_of n) views = λ n. same (grants_of n) (omega arith) in
      let frees : (n : ℕ) → total (frees_of n) now ≡ total (frees_of n) views = λ n. same (frees_of n) (omega arith) in
      let mine = k.each id v at in
      let sized : (i : ℕ) (u : WordView) → get_elem? views i ≡ some u → u.share.1 ≤ k.scale = λ i u e. (k.each i u e).sized in
      let later = fits_later (λ n. total (grants_of n) views) (λ n. total (frees_of n) views) (λ n. total (grants_of n) now) (λ n. total (frees_of n) now) stamp stamp (le_refl stamp) (λ n _. grants n) (λ n _. frees n) limit k.scale (suc k.scale) in
      let fit_left : Fits (λ n. total (grants_of n) now) (λ n. total (frees_of n) now) limit stamp (suc k.scale) left = (
      let m = later v (omega arith) mine in record {
        seen = m.seen;
        looks = m.looks;
        moves = m.moves;
        sized = (let h : v.share.1 ≤ k.scale = mine.sized in omega (arith, h));
        spent = λ z. (let s = m.spent z in record { held = (let h = s.held in omega (arith, h, sum)); moves = s.moves; looks = s.looks });
        part_sized = (let h : v.part.1 ≤ k.scale = mine.part_sized in let c = cut.sized_p in omega (arith, h, c));
        bare = λ z. absurd (let o = cut.own in omega (arith, z, o));
        idle = λ z _ _. absurd (let o = cut.own in omega (arith, z, o));
      }) in
      let fit_right : Fits (λ n. total (grants_of n) now) (λ n. total (frees_of n) now) limit stamp (suc k.scale) right = (
      let m = later v (omega arith) mine in record {
        seen = m.seen;
        looks = tt;
        moves = tt;
        sized = (let h : v.share.1 ≤ k.scale = mine.sized in omega (arith, h));
        spent = λ z. (let s = m.spent z in record { held = (let h = s.held in omega (arith, h, sum)); moves = refl; looks = refl });
        part_sized = (let h : v.part.1 ≤ k.scale = mine.part_sized in let c = cut.sized_q in omega (arith, h, c));
        bare = λ _. record { moves = refl; looks = refl; given = refl; met = refl };
        idle = λ z y n. absurd (cut.live z y n);
      }) in
      let part_sized : (i : ℕ) (u : WordView) → get_elem? views i ≡ some u → u.part.1 ≤ k.scale = λ i u e. (k.each i u e).part_sized in
      let parts : total (part_weight (suc k.scale)) now ≡ 2 ^ suc k.scale = (
      let e : 1 + k.scale ≡ suc k.scale = omega arith in
      let before : total (part_weight (suc k.scale)) views ≡ 2 ^ suc k.scale = subst (λ (n : ℕ). total (part_weight n) views ≡ 2 ^ n) e (finer_parts k.scale 1 views part_sized k.parts) in
      same (part_weight (suc k.scale)) (cut.parts k.scale mine.part_sized) ∙ before) in
      let whole : total (weight (suc k.scale)) now ≡ 2 ^ suc k.scale = (
      let e : 1 + k.scale ≡ suc k.scale = omega arith in
      let before : total (weight (suc k.scale)) views ≡ 2 ^ suc k.scale = subst (λ (n : ℕ). total (weight n) views ≡ 2 ^ n) e (finer_whole k.scale 1 views sized k.whole) in
      same (weight (suc k.scale)) (halves k.scale v.share mine.sized) ∙ before) in
      record {
        cap = k.cap;
        held = same held_of sum ∙ k.held;
        within = k.within;
        count = (let e = same count_of (omega arith) in let h = k.count in omega (arith, e, h));
        once = λ n. same (times_of n) (omega arith) ∙ k.once n;
        room = λ h. (let e = same busy (busy_parts v a b sum one) in let r = k.room h in omega (arith, e, r));
        scale = suc k.scale;
        whole = whole;
        parts = parts;
        charges = (let b = same busy (busy_parts v a b sum one) in let r = same released_of (omega arith) in let c = same granted_of (omega arith) in let e = k.charges in omega (arith, b, r, c, e));
        notes = (let n = total_snoc note_of (set views id left) right in let n' = total_set note_of views id v left at in let m = total_snoc met_of (set views id left) right in let m' = total_set met_of views id v left at in
            let o = total_snoc given_of (set views id left) right in let o' = total_set given_of views id v left at in let e = k.notes in let c = cut.given in omega (arith, n, n', m, m', o, o', e, c));
        steady = λ n. (let s = k.steady n in let x = grants n in let y = frees n in omega (arith, s, x, y));
        sums = λ n h. (let s = k.sums n h in let x = grants n in let y = frees n in omega (arith, s, x, y));
        each = λ i u e. ⊎_elim
            (λ was. ⊎_elim
            (λ (t : (i ≡ id) × (left ≡ u)). subst (λ (x : WordView). Fits (λ n. total (grants_of n) now) (λ n. total (frees_of n) now) limit stamp (suc k.scale) x) t.1 fit_left)
            (λ (t : (i ≢ id) × (get_elem? views i ≡ some u)). later u (omega arith) (k.each i u t.1))
            (at_set views id i left u was))
            (λ (is : right ≡ u). subst (λ (x : WordView). Fits (λ n. total (grants_of n) now) (λ n. total (frees_of n) now) limit stamp (suc k.scale) x) is fit_right)
            (at_snoc (set views id left) right u i e);
      }

  -- join
  pub joins : (id : ℕ) (v : WordView) (other : ℕ) (w : WordView) → v.held ≡ 0 → 0 < v.part.0 → get_elem? views id ≡ some v → ¬ (other ≡ id) → get_elem? (set views id (joined v w)) other ≡ some w → Kept limit first stamp used (set (set views id (joined v w)) other nobody)
  joins id v other w empty own at apart there =
      let both = joined v w in
      let now : List WordView = set (set views id both) other nobody in
      let same : (f : WordView → ℕ) → f both + f nobody ≡ f v + f w → total f now ≡ total f views = λ f h. total_join f views id other v w both nobody at there h in
      let grants : (n : ℕ) → total (grants_of n) now ≡ total (grants_of n) views = λ n. same (grants_of n) (omega (arith, total_append (below granted n) v.moves w.moves)) in
      let frees : (n : ℕ) → total (frees_of n) now ≡ total (frees_of n) views = λ n. same (frees_of n) (omega (arith, total_append (below freed n) v.moves w.moves)) in
      let sized : (i : ℕ) (u : WordView) → get_elem? views i ≡ some u → u.share.1 ≤ k.scale = λ i u e. (k.each i u e).sized in
      let theirs_at : get_elem? views other ≡ some w = sym (set_else views id other both apart) ∙ there in
      let later = fits_later (λ n. total (grants_of n) views) (λ n. total (frees_of n) views) (λ n. total (grants_of n) now) (λ n. total (frees_of n) now) stamp stamp (le_refl stamp) (λ n _. grants n) (λ n _. frees n) limit k.scale (k.scale + k.scale) in
      let mine = later v (omega arith) (k.each id v at) in
      let theirs = later w (omega arith) (k.each other w theirs_at) in
      let sized_v : v.share.1 ≤ k.scale = sized id v at in
      let sized_w : w.share.1 ≤ k.scale = sized other w theirs_at in
      let part_sized : (i : ℕ) (u : WordView) → get_elem? views i ≡ some u → u.part.1 ≤ k.scale = λ i u e. (k.each i u e).part_sized in
      let part_v : v.part.1 ≤ k.scale = part_sized id v at in
      let part_w : w.part.1 ≤ k.scale = part_sized other w theirs_at in
      let fit_both : Fits (λ n. total (grants_of n) now) (λ n. total (frees_of n) now) limit stamp (k.scale + k.scale) both = record {
        seen = max_le v.seen w.seen stamp mine.seen theirs.seen;
        looks = each_append _ v.looks w.looks mine.looks theirs.looks;
        moves = each_append _ v.moves w.moves mine.moves theirs.moves;
        sized = omega (arith, sized_v, sized_w);
        spent = λ z. spent_both v w mine.spent theirs.spent z;
        part_sized = omega (arith, part_v, part_w);
        bare = λ z. absurd (let o = share_some v.part w.part own in omega (arith, z, o));
        idle = λ z _ _. absurd (let o = share_some v.part w.part own in omega (arith, z, o));
      } in
      let fit_nobody : Fits (λ n. total (grants_of n) now) (λ n. total (frees_of n) now) limit stamp (k.scale + k.scale) nobody = record {
        seen = omega arith;
        looks = tt;
        moves = tt;
        sized = omega arith;
        spent = λ _. record { held = refl; moves = refl; looks = refl };
        part_sized = omega arith;
        bare = λ _. record { moves = refl; looks = refl; given = refl; met = refl };
        idle = λ _ _ _. refl;
      } in
      let whole : total (weight (k.scale + k.scale)) now ≡ 2 ^ (k.scale + k.scale) = same (weight (k.scale + k.scale)) (omega (arith, sum_parts k.scale v.share w.share sized_v sized_w)) ∙ finer_whole k.scale k.scale views sized k.whole in
      record {
        cap = k.cap;
        held = same held_of (omega arith) ∙ k.held;
        within = k.within;
        count = (let e = same count_of (omega (arith, length-append v.moves w.moves)) in let h = k.count in omega (arith, e, h));
        once = λ n. same (times_of n) (omega (arith, total_append (at_stamp n) v.moves w.moves)) ∙ k.once n;
        room = λ h. (let r = k.room h in let x = total_set busy views id v both at in let y = total_set busy (set views id both) other w nobody there in let z = busy_sum v.held w.held in omega (arith, r, x, y, z));
        scale = k.scale + k.scale;
        whole = whole;
        parts = same (part_weight (k.scale + k.scale)) (omega (arith, sum_parts k.scale v.part w.part part_v part_w)) ∙ finer_parts k.scale k.scale views part_sized k.parts;
        charges = (let b = same busy (busy_joined v.held w.held empty) in let r = same released_of (omega (arith, total_append is_release v.moves w.moves)) in let c = same granted_of (omega (arith, total_append is_grant v.moves w.moves)) in let e = k.charges in omega (arith, b, r, c, e));
        notes = (let n = total_set note_of views id v both at in let n' = total_set note_of (set views id both) other w nobody there in let m = total_set met_of views id v both at in let m' = total_set met_of (set views id both) other w nobody there in
            let o = total_set given_of views id v both at in let o' = total_set given_of (set views id both) other w nobody there in let e = k.notes in omega (arith, n, n', m, m', o, o', e));
        steady = λ n. (let s = k.steady n in let x = grants n in let y = frees n in omega (arith, s, x, y));
        sums = λ n h. (let s = k.sums n h in let x = grants n in let y = frees n in omega (arith, s, x, y));
        each = λ i u e. ⊎_elim
            (λ (t : (i ≡ other) × (nobody ≡ u)). subst (λ (x : WordView). Fits (λ n. total (grants_of n) now) (λ n. total (frees_of n) now) limit stamp (k.scale + k.scale) x) t.1 fit_nobody)
            (λ (s : (i ≢ other) × (get_elem? (set views id both) i ≡ some u)). ⊎_elim
            (λ (t : (i ≡ id) × (both ≡ u)). subst (λ (x : WordView). Fits (λ n. total (grants_of n) now) (λ n. total (frees_of n) now) limit stamp (k.scale + k.scale) x) t.1 fit_both)
            (λ (t : (i ≢ id) × (get_elem? views i ≡ some u)). later u (omega arith) (k.each i u t.1))
            (at_set views id i both u s.1))
            (at_set (set views id both) other i nobody u e);
      }
