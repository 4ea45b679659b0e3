-- Stretches of a segment's bytes.
use Rattle.std.specs.Prelude.{◌≡◌, refl, ℕ, zero, suc, ◌+◌, ◌-◌, ◌<◌, ◌≤◌, Bool, true, false, cond, not, ◌&&◌, nat_lt, nat_le, List, [], ◌∷◌, length, take, drop, filter, Option, Some, None, ℤ, max, flat_map}
use Rattle.std.proofs.Common.{◌∙◌, ap, arith}
use Rattle.streamdefs.specs.Reorder.{Placed, stretches, beside, placed_from, stands_in}
use Rattle.streamdefs.specs.View.{View, fate, is_fate, runs, is_past}
use Rattle.streamdefs.specs.View.Fate.{Wanted}
use Rattle.streamdefs.specs.Ranges.{cut_at}

-- neighbours are one stretch
pub one_stretch : (at : ℕ) (start : ℤ) (b : ℕ) (bytes : List ℕ) → stretches (placed_from at start (b ∷ bytes)) ≡ placed_from at start (b ∷ bytes) ∷ []
one_stretch at start b [] = refl
one_stretch at start b (c ∷ bytes) = ap (beside _) (one_stretch (suc at) start c bytes) ∙ grind arith

-- the stretches hold all that they are made of
beside_flat : (p : Placed) (rest : List (List Placed)) → flat_map (λ ps. ps) (beside p rest) ≡ p ∷ flat_map (λ ps. ps) rest
beside_flat p [] = refl
beside_flat p ([] ∷ rest) = refl
beside_flat p ((q ∷ qs) ∷ rest) = grind arith

pub stretches_flat : (ps : List Placed) → flat_map (λ qs. qs) (stretches ps) ≡ ps
stretches_flat [] = refl
stretches_flat (p ∷ ps) = beside_flat p (stretches ps) ∙ ap (λ qs. p ∷ qs) (stretches_flat ps)

-- at or past the front, before the cutoff
abbrev pub is_inside : ℕ → Option ℕ → ℕ → Bool
is_inside front cutoff position = not (nat_lt position front) && not (is_past cutoff position)

-- a byte is wanted exactly where it is inside and not held
pub wanted_is : (view : View) (cutoff : Option ℕ) (position : ℕ)
    → is_fate Wanted (fate view cutoff position) ≡ (is_inside view.front cutoff position && not (stands_in view.held position))
wanted_is view cutoff position = grind arith

filter_both : (f g : Placed → Bool) (ps : List Placed) → filter (λ p. f p && g p) ps ≡ filter g (filter f ps)
filter_both f g [] = refl
filter_both f g (p ∷ ps) = grind (arith, filter_both f g ps)

filter_same : (f g : Placed → Bool) (ps : List Placed) → ((p : Placed) → f p ≡ g p) → filter f ps ≡ filter g ps
filter_same f g [] h = refl
filter_same f g (p ∷ ps) h = rw (h p, filter_same f g ps h) refl

drop_nil : (n : ℕ) → drop {A = ℕ} n [] ≡ []
drop_nil zero = refl
drop_nil (suc n) = refl

take_nil : (n : ℕ) → take {A = ℕ} n [] ≡ []
take_nil zero = refl
take_nil (suc n) = refl

-- n bytes behind the first d, from a position on
slice : ℕ → ℕ → ℕ → ℤ → List ℕ → List Placed
slice at n d start bytes = placed_from at start (take n (drop d bytes))

same_slice : (start : ℤ) (bytes : List ℕ) {at at' n n' d d' : ℕ} → at ≡ at' → n ≡ n' → d ≡ d' → slice at n d start bytes ≡ slice at' n' d' start bytes
same_slice start bytes p q r = λ i. slice (p i) (q i) (r i) start bytes

-- the first byte is below the front
below : (front to at : ℕ) (start : ℤ) (b : ℕ) (bytes : List ℕ) → at < front
    → slice (max front (suc at)) (to - max front (suc at)) (front - suc at) start bytes ≡ slice (max front at) (to - max front at) (front - at) start (b ∷ bytes)
unfolding slice
below front to at start b bytes h =
    same_slice start bytes {at = max front (suc at)} {at' = front} {n = to - max front (suc at)} {n' = to - front} {d = front - suc at} {d' = front - suc at} (omega arith) (ap (λ m. to - m) (omega arith)) refl
    ∙ same_slice start (b ∷ bytes) {at = front} {at' = max front at} {n = to - front} {n' = to - max front at} {d = suc (front - suc at)} {d' = front - at} (omega arith) (ap (λ m. to - m) (omega arith)) (omega arith)

-- it is inside
inside : (front to at : ℕ) (start : ℤ) (b : ℕ) (bytes : List ℕ) → front ≤ at → at < to
    → record { at = at; byte = b; start = start; charge = None } ∷ slice (max front (suc at)) (to - max front (suc at)) (front - suc at) start bytes ≡ slice (max front at) (to - max front at) (front - at) start (b ∷ bytes)
unfolding slice
inside front to at start b bytes low high =
    ap (λ ps. record { at = at; byte = b; start = start; charge = None } ∷ ps)
    (same_slice start bytes {at = max front (suc at)} {at' = suc at} {n = to - max front (suc at)} {n' = to - suc at} {d = front - suc at} {d' = 0} (omega arith) (ap (λ m. to - m) (omega arith)) (omega arith))
    ∙ same_slice start (b ∷ bytes) {at = at} {at' = max front at} {n = suc (to - suc at)} {n' = to - max front at} {d = 0} {d' = front - at} (omega arith) (omega arith) (omega arith)

-- it is past the cutoff
past : (front to at : ℕ) (start : ℤ) (b : ℕ) (bytes : List ℕ) → front ≤ at → to ≤ at
    → slice (max front (suc at)) (to - max front (suc at)) (front - suc at) start bytes ≡ slice (max front at) (to - max front at) (front - at) start (b ∷ bytes)
unfolding slice
past front to at start b bytes low high =
    same_slice start bytes {at = max front (suc at)} {at' = suc at} {n = to - max front (suc at)} {n' = 0} {d = front - suc at} {d' = front - suc at} (omega arith) (omega arith) refl
    ∙ same_slice start (b ∷ bytes) {at = at} {at' = max front at} {n = 0} {n' = to - max front at} {d = front - at} {d' = front - at} (omega arith) (omega arith) refl

cut_is : (cutoff : Option ℕ) (at more : ℕ) → is_past cutoff at ≡ nat_le (cut_at cutoff (at + suc more)) at
cut_is None at more = grind arith
cut_is (Some cutoff) at more = grind arith

one_more : (front to at : ℕ) (start : ℤ) (b : ℕ) (bytes : List ℕ) (low high : Bool) → nat_lt at front ≡ low → nat_le to at ≡ high
    → cond (not low && not high) (record { at = at; byte = b; start = start; charge = None } ∷ slice (max front (suc at)) (to - max front (suc at)) (front - suc at) start bytes)
    (slice (max front (suc at)) (to - max front (suc at)) (front - suc at) start bytes) ≡ slice (max front at) (to - max front at) (front - at) start (b ∷ bytes)
one_more front to at start b bytes true high l h = below front to at start b bytes (grind arith)
one_more front to at start b bytes false true l h = past front to at start b bytes (grind arith) (grind arith)
one_more front to at start b bytes false false l h = inside front to at start b bytes (grind arith) (grind arith)

-- a segment's part from the front up to the cutoff
pub inside_is : (front : ℕ) (cutoff : Option ℕ) (at : ℕ) (start : ℤ) (bytes : List ℕ)
    → filter (λ p. is_inside front cutoff p.at) (placed_from at start bytes) ≡ placed_from (max front at) start (take (cut_at cutoff (at + length bytes) - max front at) (drop (front - at) bytes))
unfolding slice
inside_is front cutoff at start [] = rw (drop_nil (front - at), take_nil (cut_at cutoff (at + 0) - max front at)) refl
inside_is front cutoff at start (b ∷ bytes) =
    ap (λ ps. cond (is_inside front cutoff at) (record { at = at; byte = b; start = start; charge = None } ∷ ps) ps)
    (inside_is front cutoff (suc at) start bytes ∙ ap (λ to. slice (max front (suc at)) (to - max front (suc at)) (front - suc at) start bytes) (ap (cut_at cutoff) same_end))
    ∙ ap (λ high. cond (not (nat_lt at front) && not high) (record { at = at; byte = b; start = start; charge = None } ∷ slice (max front (suc at)) (end - max front (suc at)) (front - suc at) start bytes) (slice (max front (suc at)) (end - max front (suc at)) (front - suc at) start bytes)) (cut_is cutoff at (length bytes))
    ∙ one_more front end at start b bytes (nat_lt at front) (nat_le end at) refl refl
  where
    end : ℕ
    end = cut_at cutoff (at + suc (length bytes))

    same_end : suc at + length bytes ≡ at + suc (length bytes)
    same_end = omega arith

-- strict: the runs are the stretches of what the store doesn't hold, from the front or the start up to the end or the cutoff
pub strict_runs : (view : View) (cutoff : Option ℕ) (at : ℕ) (start : ℤ) (bytes : List ℕ)
    → runs view cutoff (placed_from at start bytes)
    ≡ stretches (filter (λ p. not (stands_in view.held p.at)) (placed_from (max view.front at) start (take (cut_at cutoff (at + length bytes) - max view.front at) (drop (view.front - at) bytes))))
strict_runs view cutoff at start bytes = ap stretches (filter_same _ _ _ (λ p. wanted_is view cutoff p.at) ∙ filter_both (λ p. is_inside view.front cutoff p.at) (λ p. not (stands_in view.held p.at)) (placed_from at start bytes)
    ∙ ap (filter (λ p. not (stands_in view.held p.at))) (inside_is view.front cutoff at start bytes))
