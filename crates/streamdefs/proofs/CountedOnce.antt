-- Each byte of a segment is counted once.
use Rattle.std.specs.Prelude.{◌≡◌, refl, ℕ, suc, ◌+◌, ◌≤◌, Bool, true, false, List, [], ◌∷◌, length, ℤ, pos, negsuc, drop, filter}
use Rattle.std.proofs.Math.ListN.{length-drop}
use Rattle.std.proofs.Common.{◌∙◌, ap, arith, rules}
use Rattle.streamdefs.specs.Lists.{how_many}
use Rattle.histbook.specs.declared.look_entry.LookEntry.{LookEntry}
use Rattle.streamdefs.specs.Reorder.{Placed, stretches, beside, placed, placed_from}
use Rattle.streamdefs.specs.View.{Fate, is_fate, granted, charged}
use Rattle.streamdefs.specs.View.Fate.{Late, Shown, Cut, Kept, Wanted}
use Rattle.streamdefs.specs.Direction.{sum_of, Kind, Direction, Segment, lengths, counts_by, bytes_of, fate_in, runs_of, start_of}
use Rattle.streamdefs.specs.Direction.Deed.{Arrives}

lengths_beside : (p : Placed) (rest : List (List Placed)) → lengths (beside p rest) ≡ suc (lengths rest)
lengths_beside p [] = refl
lengths_beside p ([] ∷ rest) = grind arith
lengths_beside p ((q ∷ qs) ∷ rest) = grind arith

pub lengths_stretches : (ps : List Placed) → lengths (stretches ps) ≡ length ps
lengths_stretches [] = refl
lengths_stretches (p ∷ ps) = lengths_beside p (stretches ps) ∙ ap suc (lengths_stretches ps)

length_filter : (test : Placed → Bool) (ps : List Placed) → length (filter test ps) ≡ how_many test ps
length_filter test [] = refl
length_filter test (p ∷ ps) = grind (arith, length_filter test ps)

length_charged : (look : LookEntry) (ps : List Placed) → length (charged look ps) ≡ length ps
length_charged look [] = refl
length_charged look (p ∷ ps) = refl

pub granted-le : (rs : List (List Placed)) (looks : List LookEntry) → lengths (granted rs looks) ≤ lengths rs
granted-le [] looks = search rules
granted-le (r ∷ rs) [] = search rules
granted-le (r ∷ rs) (look ∷ looks) = grind (arith, length_charged look r, granted-le rs looks)

-- the fates part the bytes
pub parted : (f : Placed → Fate) (ps : List Placed)
    → how_many (λ p. is_fate Late (f p)) ps + how_many (λ p. is_fate Shown (f p)) ps + how_many (λ p. is_fate Cut (f p)) ps + how_many (λ p. is_fate Kept (f p)) ps + how_many (λ p. is_fate Wanted (f p)) ps ≡ length ps
parted f [] = refl
parted f (p ∷ ps) = grind (arith, parted f ps)

length_placed_from : (at : ℕ) (start : ℤ) (bytes : List ℕ) → length (placed_from at start bytes) ≡ length bytes
length_placed_from at start [] = refl
length_placed_from at start (b ∷ bytes) = ap suc (length_placed_from (suc at) start bytes)

length_placed-le : (start : ℤ) (bytes : List ℕ) → length (placed start bytes) ≤ length bytes
length_placed-le (pos n) bytes = grind (arith, length_placed_from n (pos n) bytes)
length_placed-le (negsuc n) bytes = omega (arith, length_placed_from 0 (negsuc n) (drop (suc n) bytes), length-drop (suc n) bytes)

-- each byte of the payload is counted once
pub counted_once : (kind : Kind) (d : Direction) (s : Segment) (looks : List LookEntry) → sum_of (counts_by kind d (Arrives s looks)) ≡ length s.payload
counted_once kind d s looks = cases s.live
  where
    alive : Segment
    alive = record s { live = true }

    bytes : List Placed
    bytes = bytes_of kind d alive

    cases : (live : Bool) → sum_of (counts_by kind d (Arrives (record s { live = live }) looks)) ≡ length s.payload
    cases true = omega (
      arith,
      parted (fate_in d alive) bytes,
      granted-le (runs_of kind d alive) looks,
      lengths_stretches (filter (λ p. is_fate Wanted (fate_in d alive p)) bytes),
      length_filter (λ p. is_fate Wanted (fate_in d alive p)) bytes,
      length_placed-le (start_of kind d alive) s.payload,
    )
    cases false = omega arith
