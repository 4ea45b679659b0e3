-- The bytes reserved by what a direction has and gives away.
use Rattle.std.specs.Prelude.{ℕ, ◌+◌, List, [], ◌∷◌, ◌++◌, Option, Some, None, cond}
use Rattle.streamdefs.specs.Terms.{Terms}
use Rattle.streamdefs.specs.Reorder.{Charge, Placed}
use Rattle.streamdefs.specs.View.{granted}
use Rattle.streamdefs.specs.Pending.{Pending, Piece, copy_charge, pending_behind}
use Rattle.streamdefs.specs.Direction.{Kind, Direction, Deed, runs_of, is_cut, last_pending, looks_left}
use Rattle.streamdefs.specs.Direction.Deed.{Arrives, Falls_due, Ends}

abbrev pub amount : List Charge → ℕ
amount [] = 0
amount (c ∷ cs) = c.bytes + amount cs

abbrev pub amount_of : List Placed → ℕ
amount_of [] = 0
amount_of (p ∷ ps) = one p.charge + amount_of ps
  where
    one : Option Charge → ℕ
    one None = 0
    one (Some c) = c.bytes

abbrev pub amount_pending : Pending → ℕ
amount_pending p = amount_of p.bytes + amount (copy_charge p.copy)

-- of a direction: held, pending, and the copy
abbrev pub amount_in : Direction → ℕ
amount_in d = amount_of d.view.held + amount_pending d.pending

abbrev pub amount_pieces : List Piece → ℕ
amount_pieces [] = 0
amount_pieces (p ∷ ps) = amount p.charges + amount_pieces ps

abbrev pub joined_runs : List (List Placed) → List Placed
joined_runs [] = []
joined_runs (r ∷ rs) = r ++ joined_runs rs

-- reserved in an entry: its granted runs, and its copy
abbrev pub amount_granted : Terms → Kind → Direction → Deed → ℕ
amount_granted terms kind d (Arrives s looks) = amount_of (joined_runs (granted (runs_of kind d s) looks)) + amount_copy terms kind d (Arrives s looks)
  where
    amount_copy : Terms → Kind → Direction → Deed → ℕ
    amount_copy terms kind d deed = cond (is_cut terms deed (last_pending terms kind d deed)) (amount (copy_charge (pending_behind terms (last_pending terms kind d deed) (looks_left kind d deed)).copy)) 0
amount_granted terms kind d (Falls_due at looks) = cond (is_cut terms (Falls_due at looks) (last_pending terms kind d (Falls_due at looks))) (amount (copy_charge (pending_behind terms (last_pending terms kind d (Falls_due at looks)) (looks_left kind d (Falls_due at looks))).copy)) 0
amount_granted terms kind d (Ends at) = 0
