-- Moves of a budget: docs/RULES.md, "The budget's history".
use Rattle.std.specs.Prelude.{ℕ, ◌-◌, cond, nat_le, List, [], ◌∷◌, map}
use Rattle.histbook.specs.Budget.{BudgetMove, Grant as Granted, Release as Released, granted_below, freed_below}
use Rattle.tally.specs.declared.moves.Move.{Move}
use Rattle.tally.specs.declared.moves.Move.TheVariants.{Grant, Free}

-- the stamp that a move found
abbrev pub stamp_of : Move → ℕ
stamp_of (Grant stamp bytes) = stamp
stamp_of (Free stamp bytes) = stamp

-- a move as one of a budget's history, whose sums do not look at what a grant found
abbrev pub in_history : Move → BudgetMove
in_history (Grant stamp bytes) = Granted (record { stamp = stamp; found = 0 }) bytes
in_history (Free stamp bytes) = Released (record { stamp = stamp; bytes = bytes })

-- all moves, as a budget's history
abbrev pub history_of : List Move → List BudgetMove
history_of moves = map in_history moves

-- the used number before a stamp
abbrev pub used_before : List Move → ℕ → ℕ
used_before moves stamp = granted_below stamp (history_of moves) - freed_below stamp (history_of moves)

-- a move put before the first one that has no lower stamp
abbrev pub put_move : Move → List Move → List Move
put_move move [] = move ∷ []
put_move move (next ∷ moves) = cond (nat_le (stamp_of move) (stamp_of next)) (move ∷ next ∷ moves) (next ∷ put_move move moves)

-- the moves by ascending stamp, equal ones as they stand
abbrev pub by_stamp : List Move → List Move
by_stamp [] = []
by_stamp (move ∷ moves) = put_move move (by_stamp moves)
