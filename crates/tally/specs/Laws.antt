-- What a replay means for a budget's history, each the contract of a function of src/laws.rt.
use Rattle.std.specs.Prelude.{◌≡◌, ℕ, ◌^◌, ◌<◌, List, length, map}
use Rattle.histbook.specs.declared.look_entry.LookEntry.{LookEntry}
use Rattle.histbook.specs.Budget.{BudgetMove, Grant as Granted, Release as Released, IsOneHistory}
use Rattle.histbook.specs.InTurn.{peak}
use Rattle.tally.specs.declared.moves.Move.{Move}
use Rattle.tally.specs.declared.moves.Move.TheVariants.{Grant, Free}
use Rattle.tally.specs.declared.mismatch.Mismatch.{Mismatch}
use Rattle.tally.specs.Moves.{history_of}
use Rattle.tally.specs.Replay.{IsOneReplay, IsFirstMismatch}

-- a move of a budget's history, without what its ask found
abbrev pub move_of : BudgetMove → Move
move_of (Granted look bytes) = Grant look.stamp bytes
move_of (Released free) = Free free.stamp free.bytes

-- one history of a budget is one to a replay
abbrev pub HistoryIsReplayed : Type 0
HistoryIsReplayed = (limit : ℕ) (moves : List BudgetMove) (looks : List LookEntry) → length moves < 2 ^ 32 → IsOneHistory limit 0 moves (map (λ look. look.look) looks)
    → IsOneReplay limit (map move_of moves) looks

-- with the same peak
abbrev pub PeakIsTheHistorys : Type 0
PeakIsTheHistorys = (moves : List BudgetMove) → peak (history_of (map move_of moves)) ≡ peak moves

-- what is one history shows nothing, so it has no first mismatch
abbrev pub HistoryHasNoMismatch : Type 0
HistoryHasNoMismatch = (limit : ℕ) (moves : List Move) (looks : List LookEntry) → IsOneReplay limit moves looks → (m : Mismatch) → ¬ IsFirstMismatch limit moves looks m
