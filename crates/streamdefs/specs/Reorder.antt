-- Bytes at positions: what a segment gives, and what is held until the front comes.
use Rattle.std.specs.Prelude.{ℕ, suc, Bool, cond, ◌==◌, nat_lt, List, [], ◌∷◌, ◌++◌, drop, map, Option, Some, None, ℤ, pos, negsuc}
use Rattle.std.specs.List.{list_any, find}
use Rattle.overpolicy.specs.declared.policy.Policy.{Policy}
use Rattle.overpolicy.specs.Winner.{wins}

-- bytes reserved by one granted look, and the stamp that the look found
pub record Charge : Type 0 where
  pub bytes : ℕ
  pub stamp : ℕ

-- A byte at its position, with the start of the segment that gave it. The first byte of a reserved run has the run's charge.
pub record Placed : Type 0 where
  pub at : ℕ
  pub byte : ℕ
  pub start : ℤ
  pub charge : Option Charge

-- whether a byte is at that position
abbrev pub is_at : ℕ → Placed → Bool
is_at position p = p.at == position

-- whether one of these is at that position
abbrev pub stands_in : List Placed → ℕ → Bool
stands_in ps position = list_any (is_at position) ps

-- a segment's bytes at positions that rise from one on
abbrev pub placed_from : ℕ → ℤ → List ℕ → List Placed
placed_from position start [] = []
placed_from position start (byte ∷ bytes) =
    record { at = position; byte = byte; start = start; charge = None } ∷ placed_from (suc position) start bytes

-- a segment's bytes at their positions, those at 0 and above
abbrev pub placed : ℤ → List ℕ → List Placed
placed (pos n) bytes = placed_from n (pos n) bytes
placed (negsuc n) bytes = placed_from 0 (negsuc n) (drop (suc n) bytes)

-- a byte joined to a first stretch that begins at the next position
abbrev pub beside : Placed → List (List Placed) → List (List Placed)
beside p [] = (p ∷ []) ∷ []
beside p ([] ∷ rest) = (p ∷ []) ∷ rest
beside p ((q ∷ qs) ∷ rest) = cond (q.at == suc p.at) ((p ∷ q ∷ qs) ∷ rest) ((p ∷ []) ∷ (q ∷ qs) ∷ rest)

-- the longest stretches of neighbours, of bytes by ascending position
abbrev pub stretches : List Placed → List (List Placed)
stretches [] = []
stretches (p ∷ ps) = beside p (stretches ps)

-- a run put among held bytes, none of which it covers
abbrev pub put_run : List Placed → List Placed → List Placed
put_run [] held = held
put_run (p ∷ ps) [] = p ∷ ps
put_run (p ∷ ps) (h ∷ hs) = cond (nat_lt h.at p.at) (h ∷ put_run (p ∷ ps) hs) (p ∷ ps ++ h ∷ hs)

-- a held byte after a later segment's byte at its position, where there is one
abbrev pub settled_with : Policy → Placed → Option Placed → Placed
settled_with policy h None = h
settled_with policy h (Some p) = cond (wins policy h.start p.start) (record h { byte = p.byte; start = p.start }) h

-- the held bytes after a later segment covered some of them
abbrev pub settled : Policy → List Placed → List Placed → List Placed
settled policy later held = map (λ h. settled_with policy h (find (is_at h.at) later)) held
