-- What a replay of moves and looks answers.
use Rattle.std.specs.Prelude.{◌≡◌, ◌≢◌, ⊤, ℕ, ◌^◌, ◌<◌, ◌≤◌, List, length, map, Some, None, Result, Ok, Err}
use Rattle.histbook.specs.declared.look_entry.LookEntry.{LookEntry}
use Rattle.histbook.specs.Budget.{EachBelow, HasEachStampOnce, FoundTheUsed, StaysWithin, granted_below, freed_below}
use Rattle.histbook.specs.InTurn.{peak}
use Rattle.tally.specs.declared.moves.Move.{Move}
use Rattle.tally.specs.declared.mismatch.Mismatch.{Mismatch}
use Rattle.tally.specs.declared.peak.Peak.{Peak}
use Rattle.tally.specs.declared.replay_error.ReplayError.{ReplayError}
use Rattle.tally.specs.declared.replay_error.ReplayError.TheVariants.{Memory, Disagree}
use Rattle.tally.specs.Moves.{history_of}
use Rattle.tally.specs.Table.{row_at}

-- no more is freed below a stamp than is granted below it
abbrev pub NeverFallsBelowZero : List Move → Type 0
NeverFallsBelowZero moves = (n : ℕ) → freed_below n (history_of moves) ≤ granted_below n (history_of moves)

-- moves and looks are one history of a budget, from stamp 0 on: each stamp is there once, each look found the used number, which neither falls
-- below 0 nor passes the limit
pub record IsOneReplay (limit : ℕ) (moves : List Move) (looks : List LookEntry) : Type 0 where
  pub few : length moves < 2 ^ 32
  pub once : HasEachStampOnce 0 (history_of moves)
  pub found : FoundTheUsed 0 (history_of moves) (map (λ look. look.look) looks)
  pub covered : NeverFallsBelowZero moves
  pub within : StaysWithin limit (history_of moves)

-- how many moves there were, and the greatest used number behind one of them
abbrev pub IsPeak : List Move → Peak → Type 0
IsPeak moves p = (p.stamps ≡ length moves) × (p.peak ≡ peak (history_of moves))

-- a mismatch is the one at the least stamp at which something shows
abbrev pub IsFirstMismatch : ℕ → List Move → List LookEntry → Mismatch → Type 0
IsFirstMismatch limit moves looks m = (row_at limit moves looks m.stamp ≡ Some m) × EachBelow (λ n. row_at limit moves looks n ≡ None) m.stamp

-- what a replay comes to: the peak of one history, or the first mismatch of moves and looks that are none
abbrev pub IsOutcome : ℕ → List Move → List LookEntry → Result Peak Mismatch → Type 0
IsOutcome limit moves looks (Ok p) = IsOneReplay limit moves looks × IsPeak moves p
IsOutcome limit moves looks (Err m) = IsFirstMismatch limit moves looks m × (¬ IsOneReplay limit moves looks) × (m.kept ≢ m.summed)

-- a fact on what an error says of the moves; want of memory says nothing
abbrev pub OnDisagree : ReplayError → (Mismatch → Type 0) → Type 0
OnDisagree Memory P = ⊤
OnDisagree (Disagree stamp kept summed) P = P (record { stamp = stamp; kept = kept; summed = summed })
