-- Held parts of one direction: each has its begin, its bytes with the start kept at each, and its charge.
use Rattle.reorder.specs.declared.run.Run.{Run}
use Rattle.std.specs.Prelude.{◌≡◌, ⊤, ◌⊎◌, ℕ, suc, ◌+◌, ◌-◌, ◌<◌, ◌≤◌, Bool, cond, ◌==◌, ◌||◌, nat_lt, nat_le, List, [], ◌∷◌, ◌++◌, length, map, take, drop, min, max, Option, Some, None, slice_get, ℤ}
use Rattle.overpolicy.specs.declared.policy.Policy.{Policy}
use Rattle.overpolicy.specs.Winner.{wins}
use Rattle.streamdefs.specs.Reorder.{Charge, Placed, placed_from}
use Rattle.streamdefs.specs.Ranges.{Range, between}

-- a byte, and the start of the segment that gave it
pub record Cell : Type 0 where
  pub byte : ℕ
  pub start : ℤ

-- a part, whose charge is a C
pub record Frag (C : Type 0) : Type 0 where
  pub at : ℕ
  pub cells : List Cell
  pub charge : C

-- the position behind it
abbrev pub end_of : {C : Type 0} → Frag C → ℕ
end_of f = f.at + length f.cells

-- the number of bytes of parts
abbrev pub size : {C : Type 0} → List (Frag C) → ℕ
size [] = 0
size (f ∷ fs) = length f.cells + size fs

-- they rise from a position on, none is empty, and none overlaps another
abbrev pub Ascends : {C : Type 0} → ℕ → List (Frag C) → Type 0
Ascends low [] = ⊤
Ascends low (f ∷ fs) = (low ≤ f.at) × (0 < length f.cells) × Ascends (end_of f) fs

-- The positions of parts: the bytes at theirs, the first of each part with its charge.
abbrev pub cells_from : ℕ → List Cell → List Placed
cells_from at [] = []
cells_from at (c ∷ cs) = record { at = at; byte = c.byte; start = c.start; charge = None } ∷ cells_from (suc at) cs

abbrev pub with_charge : Charge → List Placed → List Placed
with_charge charge [] = []
with_charge charge (p ∷ ps) = record p { charge = Some charge } ∷ ps

abbrev pub spread_one : {C : Type 0} → (C → Charge) → Frag C → List Placed
spread_one paid f = with_charge (paid f.charge) (cells_from f.at f.cells)

abbrev pub spread : {C : Type 0} → (C → Charge) → List (Frag C) → List Placed
spread paid [] = []
spread paid (f ∷ fs) = spread_one paid f ++ spread paid fs

-- the longest ranges within one that no part covers
abbrev pub free : {C : Type 0} → ℕ → ℕ → List (Frag C) → List Range
free from to [] = between from to
free from to (f ∷ fs) = between from (min f.at to) ++ free (max from (end_of f)) to fs

-- the bytes of a range, of those that stand from a position on
abbrev pub slice : ℕ → ℤ → ℕ → ℕ → List ℕ → List Placed
slice at start d n bytes = placed_from at start (take n (drop d bytes))

abbrev pub run_in : ℕ → ℤ → List ℕ → Range → List Placed
run_in lo start bytes r = slice r.at start (r.at - lo) r.len bytes

-- a range that no part covers
abbrev pub IsClear : {C : Type 0} → ℕ → ℕ → List (Frag C) → Type 0
IsClear from to [] = ⊤
IsClear from to (f ∷ fs) = ((end_of f ≤ from) ⊎ (to ≤ f.at)) × IsClear from to fs

-- ranges that rise from a position on, none is empty, and no part covers one of them
abbrev pub AreClear : {C : Type 0} → ℕ → List (Frag C) → List Range → Type 0
AreClear low fs [] = ⊤
AreClear low fs (r ∷ rs) = (low ≤ r.at) × (0 < r.len) × IsClear r.at (r.at + r.len) fs × AreClear (r.at + r.len) fs rs

-- The parts that move to the flow, from the front on: without a break always, and across a hole where `jumps` holds of the
-- number of bytes behind it.
abbrev pub pass : {C : Type 0} → (ℕ → Bool) → ℕ → List (Frag C) → List (Frag C)
pass jumps front [] = []
pass jumps front (f ∷ fs) = cond ((f.at == front) || jumps (size (f ∷ fs))) (f ∷ pass jumps (end_of f) fs) []

-- one more part among others
abbrev pub put : {C : Type 0} → Frag C → List (Frag C) → List (Frag C)
put f [] = f ∷ []
put f (g ∷ gs) = cond (nat_lt g.at f.at) (g ∷ put f gs) (f ∷ g ∷ gs)

-- A later segment's bytes over held ones: which stays is settled by the policy, and no begin, length or charge changes.
abbrev pub byte_at : ℕ → List ℕ → ℕ → Option ℕ
byte_at from bytes at = cond (nat_le from at) (slice_get bytes (at - from)) None

abbrev pub cell_with : Policy → ℤ → Cell → Option ℕ → Cell
cell_with policy start c None = c
cell_with policy start c (Some byte) = cond (wins policy c.start start) (record { byte = byte; start = start }) c

abbrev pub cells_with : Policy → ℤ → ℕ → List ℕ → ℕ → List Cell → List Cell
cells_with policy start from bytes at [] = []
cells_with policy start from bytes at (c ∷ cs) = cell_with policy start c (byte_at from bytes at) ∷ cells_with policy start from bytes (suc at) cs

abbrev pub overlaid_one : {C : Type 0} → Policy → ℤ → ℕ → List ℕ → Frag C → Frag C
overlaid_one policy start from bytes f = record f { cells = cells_with policy start from bytes f.at f.cells }

abbrev pub overlaid : {C : Type 0} → Policy → ℤ → ℕ → List ℕ → List (Frag C) → List (Frag C)
overlaid policy start from bytes fs = map (overlaid_one policy start from bytes) fs

-- the bytes of a part alone, and those of one segment as a part's
abbrev pub bytes_in : List Cell → List ℕ
bytes_in cs = map (λ c. c.byte) cs

abbrev pub cells_of : ℤ → List ℕ → List Cell
cells_of start bytes = map (λ byte. record { byte = byte; start = start }) bytes

-- the range of a run
abbrev pub range_for : Run → Range
range_for run = record { at = run.at; len = run.len }

-- the sum of a weight over the charges of parts
abbrev pub weight_in : {C : Type 0} → (C → ℕ) → List (Frag C) → ℕ
weight_in w [] = 0
weight_in w (f ∷ fs) = w f.charge + weight_in w fs

-- the first part begins at a position, or there is none that does
abbrev pub BeginsAt : {C : Type 0} → ℕ → List (Frag C) → Type 0
BeginsAt at [] = ⊥
BeginsAt at (f ∷ fs) = f.at ≡ at

abbrev pub DoesNotBegin : {C : Type 0} → ℕ → List (Frag C) → Type 0
DoesNotBegin at [] = ⊤
DoesNotBegin at (f ∷ fs) = f.at ≡ at → ⊥

-- bytes with their charge are the first part, which begins at a position; the others are these
abbrev pub IsFirst : {C : Type 0} → ℕ → List ℕ × C → List (Frag C) → List (Frag C) → Type 0
IsFirst at part [] rest = ⊥
IsFirst at part (f ∷ fs) rest = (f.at ≡ at) × (part ≡ (bytes_in f.cells, f.charge)) × (fs ≡ rest)

-- parts end at a position at the latest
abbrev pub EndBy : {C : Type 0} → ℕ → List (Frag C) → Type 0
EndBy most [] = ⊤
EndBy most (f ∷ fs) = (end_of f ≤ most) × EndBy most fs
