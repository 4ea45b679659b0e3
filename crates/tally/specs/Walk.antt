-- Moves made again in order, and looks compared with what was used.
use Rattle.std.specs.Prelude.{◌≡◌, ℕ, zero, suc, ◌+◌, ◌-◌, ◌<◌, ◌⊎◌, cond, nat_lt, nat_le, max, List, [], ◌∷◌, ◌++◌, length, slice_get, slice_index, Option, Some, None}
use Rattle.std.specs.Option.{option_or}
use Rattle.histbook.specs.declared.look_entry.LookEntry.{LookEntry}
use Rattle.histbook.specs.Budget.{EachBelow}
use Rattle.tally.specs.declared.moves.Move.{Move}
use Rattle.tally.specs.declared.moves.Move.TheVariants.{Grant, Free}
use Rattle.tally.specs.declared.mismatch.Mismatch.{Mismatch}
use Rattle.tally.specs.Table.{other_stamp, too_many, other_found, too_late, freed_too_much, passed_limit, first_look}

-- the used number behind a move
abbrev pub used_after : ℕ → Move → ℕ
used_after used (Grant stamp bytes) = used + bytes
used_after used (Free stamp bytes) = used - bytes

-- behind the first n of some moves
abbrev pub used_from : ℕ → List Move → ℕ → ℕ
used_from used [] n = used
used_from used (move ∷ moves) zero = used
used_from used (move ∷ moves) (suc n) = used_from (used_after used move) moves n

abbrev pub used_behind : List Move → ℕ → ℕ
used_behind moves n = used_from 0 moves n

-- the first n of numbered numbers, and the greatest of those numbered from one to n
abbrev pub firsts : (ℕ → ℕ) → ℕ → List ℕ
firsts f zero = []
firsts f (suc n) = firsts f n ++ f n ∷ []

abbrev pub highest : (ℕ → ℕ) → ℕ → ℕ
highest f zero = 0
highest f (suc n) = max (f (suc n)) (highest f n)

-- what a move shows by its place, and by the used number
abbrev pub misplaced : (count s : ℕ) → Option Move → Option Mismatch
misplaced count s move = option_or (other_stamp s move) (too_many count s move)

abbrev pub overdrawn : (limit used s : ℕ) → Option Move → Option Mismatch
overdrawn limit used s move = option_or (freed_too_much used s move) (passed_limit limit used s move)

-- moves that were made: how many, what is used behind them and at most, and the used number before each stamp at which looks are compared
pub record WalkParts : Type 0 where
  pub limit : ℕ
  pub count : ℕ
  pub place : ℕ
  pub used : ℕ
  pub peak : ℕ
  pub before : List ℕ

-- nothing was made yet
abbrev pub no_walk : (limit count : ℕ) → WalkParts
no_walk limit count = record { limit = limit; count = count; place = 0; used = 0; peak = 0; before = [] }

-- with the present used number to compare with
abbrev pub compared : WalkParts → WalkParts
compared w = record { limit = w.limit; count = w.count; place = w.place; used = w.used; peak = w.peak; before = w.before ++ w.used ∷ [] }

-- with one move more
abbrev pub made : WalkParts → Move → WalkParts
made w move =
    record { limit = w.limit; count = w.count; place = w.place + 1; used = used_after w.used move; peak = max (used_after w.used move) w.peak; before = w.before }

-- what a move shows at the place of a walk
abbrev pub misplaced_in : WalkParts → Move → Option Mismatch
misplaced_in w move = misplaced w.count w.place (Some move)

abbrev pub overdrawn_in : WalkParts → Move → Option Mismatch
overdrawn_in w move = overdrawn w.limit w.used w.place (Some move)

-- a move is made, or shows something: then looks are compared at its stamp only where its place was right
abbrev pub IsStep : WalkParts → Move → Option Mismatch → WalkParts → Type 0
IsStep w move None v = (misplaced_in w move ≡ None) × (overdrawn_in w move ≡ None) × (v ≡ made (compared w) move)
IsStep w move (Some m) v = ((misplaced_in w move ≡ Some m) × (v ≡ w)) ⊎ ((misplaced_in w move ≡ None) × (overdrawn_in w move ≡ Some m) × (v ≡ compared w))

-- the move at a place shows nothing
abbrev pub IsClear : ℕ → List Move → ℕ → Type 0
IsClear limit moves s = (misplaced (length moves) s (slice_get moves s) ≡ None) × (overdrawn limit (used_behind moves s) s (slice_get moves s) ≡ None)

-- a walk made the first n moves
pub record HasMade (limit : ℕ) (moves : List Move) (n : ℕ) (w : WalkParts) : Type 0 where
  pub limit_is : w.limit ≡ limit
  pub count_is : w.count ≡ length moves
  pub place_is : w.place ≡ n
  pub used_is : w.used ≡ used_behind moves n
  pub peak_is : w.peak ≡ highest (used_behind moves) n
  pub before_is : w.before ≡ firsts (used_behind moves) n
  pub clear : EachBelow (IsClear limit moves) n

-- the move at a place shows something, and looks are compared up to its stamp: at it only where its place was right
pub record StopsAt (limit : ℕ) (moves : List Move) (before : List ℕ) (s : ℕ) (m : Mismatch) : Type 0 where
  pub inside : s < length moves
  pub clear : EachBelow (IsClear limit moves) s
  pub shown :
      ((before ≡ firsts (used_behind moves) s) × (misplaced (length moves) s (slice_get moves s) ≡ Some m))
      ⊎ ((before ≡ firsts (used_behind moves) (suc s)) × (misplaced (length moves) s (slice_get moves s) ≡ None) × (overdrawn limit (used_behind moves s) s (slice_get moves s) ≡ Some m))

-- all moves were made, with the last used number to compare with
pub record MadeAll (limit : ℕ) (moves : List Move) (w : WalkParts) : Type 0 where
  pub place_is : w.place ≡ length moves
  pub peak_is : w.peak ≡ highest (used_behind moves) (length moves)
  pub before_is : w.before ≡ firsts (used_behind moves) (suc (length moves))
  pub clear : EachBelow (IsClear limit moves) (length moves)

-- a walk over moves made them all, or stopped at what one of them shows
abbrev pub HasWalked : ℕ → List Move → Option Mismatch → WalkParts → Type 0
HasWalked limit moves None w = MadeAll limit moves w
HasWalked limit moves (Some m) w = StopsAt limit moves w.before m.stamp m

-- what a look shows: below the numbers to compare with by what it found, above the number of moves by its stamp
abbrev pub shown_by : (before : List ℕ) (count : ℕ) → LookEntry → Option Mismatch
shown_by before count look =
    cond (nat_lt look.look.stamp (length before)) (other_found (slice_index before look.look.stamp) look) (cond (nat_lt count look.look.stamp) (too_late count look) None)

-- the one of the lower stamp, the first of equal ones
abbrev pub earlier_of : Option Mismatch → Option Mismatch → Option Mismatch
earlier_of None next = next
earlier_of (Some m) None = Some m
earlier_of (Some m) (Some n) = cond (nat_le m.stamp n.stamp) (Some m) (Some n)

-- the first one at the least stamp at which looks show something
abbrev pub IsLeastShown : (LookEntry → Option Mismatch) → List LookEntry → Option Mismatch → Type 0
IsLeastShown shown looks None = (s : ℕ) → first_look shown s looks ≡ None
IsLeastShown shown looks (Some m) = (first_look shown m.stamp looks ≡ Some m) × ((s : ℕ) → s < m.stamp → first_look shown s looks ≡ None)
