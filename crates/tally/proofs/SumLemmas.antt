-- The sums over directions, one direction more at a time.
use Rattle.std.proofs.Common.{◌≡◌, ℕ, zero, suc, ◌+◌, ◌≤◌, ◌<◌, List, [], ◌∷◌, length, take, get_or, ◌^◌, arith, add-one}
use Rattle.convo.specs.declared.dir_total.DirTotal.{DirTotal}
use Rattle.streamdefs.specs.Lists.{total}
use Rattle.tally.specs.Totals.{payload_of}

pub sum_more : (f : DirTotal → ℕ) (ds : List DirTotal) (i : ℕ) (d : DirTotal) → i < length ds → total f (take (suc i) ds) ≡ total f (take i ds) + f (get_or ds i d)
sum_more f [] i d l = absurd (omega arith)
sum_more f (x ∷ ds) zero d l = omega arith
sum_more f (x ∷ ds) (suc i) d l = omega (arith, sum_more f ds i d (omega arith))

-- a class has no more bytes than came
abbrev pub IsWithin : (DirTotal → ℕ) → Type 0
IsWithin f = (d : DirTotal) → f d ≤ payload_of d

front_within : (f : DirTotal → ℕ) → IsWithin f → (ds : List DirTotal) (n : ℕ) → total f (take n ds) ≤ total payload_of ds
front_within f w [] zero = omega arith
front_within f w [] (suc n) = omega arith
front_within f w (d ∷ ds) zero = omega arith
front_within f w (d ∷ ds) (suc n) = omega (arith, w d, front_within f w ds n)

-- the next direction fits
pub fits_more : (f : DirTotal → ℕ) → IsWithin f → (ds : List DirTotal) (i : ℕ) (d : DirTotal) → i < length ds → total f (take i ds) + f (get_or ds i d) ≤ total payload_of ds
fits_more f w ds i d l = omega (arith, sum_more f ds i d l, front_within f w ds (suc i))

pub all_within : IsWithin payload_of
all_within d = omega arith

pub taken_within : IsWithin (λ d. d.counts.taken)
taken_within d = omega arith

pub duplicate_within : IsWithin (λ d. d.counts.duplicate)
duplicate_within d = omega arith

pub late_within : IsWithin (λ d. d.counts.late)
late_within d = omega arith

pub cut_within : IsWithin (λ d. d.counts.cut)
cut_within d = omega arith

pub shed_within : IsWithin (λ d. d.counts.shed)
shed_within d = omega arith

pub fits : (f : DirTotal → ℕ) → IsWithin f → (ds : List DirTotal) (i : ℕ) (d : DirTotal) (n : ℕ) → i < length ds → n ≡ total f (take i ds) → total payload_of ds < 2 ^ 64 → n + f (get_or ds i d) < 2 ^ 64
fits f w ds i d n l e few = omega (arith, e, few, fits_more f w ds i d l)

pub grown : (f : DirTotal → ℕ) (ds : List DirTotal) (i : ℕ) (d : DirTotal) (n m : ℕ) → i < length ds → n ≡ total f (take i ds) → m ≡ n + f (get_or ds i d) → m ≡ total f (take (i + 1) ds)
grown f ds i d n m l e g = rw add-one (omega (arith, e, g, sum_more f ds i d l))

-- one direction has no more bytes than all
pub one_fits : (ds : List DirTotal) (i : ℕ) (d : DirTotal) → i < length ds → total payload_of ds < 2 ^ 64 → payload_of (get_or ds i d) < 2 ^ 64
one_fits ds i d l few = omega (arith, few, fits_more payload_of all_within ds i d l)
