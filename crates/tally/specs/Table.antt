-- What shows at a stamp that moves and looks are no history of a budget.
use Rattle.std.specs.Prelude.{ℕ, ◌+◌, cond, ◌==◌, nat_lt, List, [], ◌∷◌, length, slice_get, Option, Some, None}
use Rattle.std.specs.Option.{option_or}
use Rattle.histbook.specs.declared.look_entry.LookEntry.{LookEntry}
use Rattle.tally.specs.declared.moves.Move.{Move}
use Rattle.tally.specs.declared.moves.Move.TheVariants.{Grant, Free}
use Rattle.tally.specs.declared.mismatch.Mismatch.{Mismatch}
use Rattle.tally.specs.Moves.{stamp_of, used_before, by_stamp}

-- the greatest number of 32 bits
abbrev pub last_stamp : ℕ
last_stamp = 4294967295

-- a stamp and two numbers there that should be one: what was kept, and what the moves come to
abbrev pub at : (stamp kept summed : ℕ) → Option Mismatch
at stamp kept summed = Some (record { stamp = stamp; kept = kept; summed = summed })

-- 1: the move at the place s has another stamp
abbrev pub other_stamp : ℕ → Option Move → Option Mismatch
other_stamp s None = None
other_stamp s (Some move) = cond (stamp_of move == s) None (at s s (stamp_of move))

-- 2: there is a move at the last place that has a stamp
abbrev pub too_many : (count s : ℕ) → Option Move → Option Mismatch
too_many count s None = None
too_many count s (Some move) = cond (s == last_stamp) (at s s count) None

-- a look found another number than the used one
abbrev pub other_found : ℕ → LookEntry → Option Mismatch
other_found used look = cond (look.look.found == used) None (at look.look.stamp look.look.found used)

-- the first of the looks at a stamp that shows a mismatch
abbrev pub first_look : (LookEntry → Option Mismatch) → ℕ → List LookEntry → Option Mismatch
first_look shown s [] = None
first_look shown s (look ∷ looks) = cond (look.look.stamp == s) (option_or (shown look) (first_look shown s looks)) (first_look shown s looks)

-- 4: a free has more bytes than are used
abbrev pub freed_too_much : (used s : ℕ) → Option Move → Option Mismatch
freed_too_much used s (Some (Free stamp bytes)) = cond (nat_lt used bytes) (at s bytes used) None
freed_too_much used s other = None

-- 5: a grant brings the used number above the limit
abbrev pub passed_limit : (limit used s : ℕ) → Option Move → Option Mismatch
passed_limit limit used s (Some (Grant stamp bytes)) = cond (nat_lt limit (used + bytes)) (at s limit (used + bytes)) None
passed_limit limit used s other = None

-- the first of the five that holds at s (3: a look at s found another number than the used one), where the used number and the move there are given
abbrev pub row_of : (limit count used s : ℕ) → Option Move → List LookEntry → Option Mismatch
row_of limit count used s move looks =
    option_or (other_stamp s move) (option_or (too_many count s move) (option_or (first_look (other_found used) s looks)
    (option_or (freed_too_much used s move) (passed_limit limit used s move))))

-- a look is at a stamp above the number of moves
abbrev pub too_late : ℕ → LookEntry → Option Mismatch
too_late count look = at look.look.stamp look.look.stamp count

-- what shows at the stamp s: one of the five up to the number of moves, and above it a look at s
abbrev pub row_at : ℕ → List Move → List LookEntry → ℕ → Option Mismatch
row_at limit moves looks s =
    cond (nat_lt (length moves) s) (first_look (too_late (length moves)) s looks) (row_of limit (length moves) (used_before moves s) s (slice_get (by_stamp moves) s) looks)
