-- The round of a worker, as the worker itself goes it, and the core that it finds.
use Rattle.std.specs.Prelude.{◌≡◌, ◌≢◌, ℕ, ◌+◌, ◌%◌, List, [], length, take, Option, Some, None, slice_get}
use Rattle.workrun.specs.Circle.{place_of, round_from}
use Rattle.mixrun.specs.Moment.{Setup, AtCore, AtWorker, Moment}
use Rattle.mixrun.specs.Schedule.{last_of, NoneWaits, IsInTurn}
use Rattle.mixrun.specs.Holds.{Holds}

-- where a worker's round stands: at the first of its cores, or behind that of the event that it had last
abbrev pub stands_at : (first step : ℕ) → Option ℕ → ℕ
stands_at first step None = 0
stands_at first step (Some last) = place_of first step last + 1

-- its cores in that round
abbrev pub round_of : Setup → ℕ → AtWorker → Moment → List ℕ
round_of s w x m = round_from w (length s.handlers) (length m.cores) (stands_at w (length s.handlers) (last_of x.served))

-- none of these cores has an event
abbrev pub HaveNone : Moment → List ℕ → Type 0
HaveNone m round = (turn core : ℕ) (a : AtCore) → slice_get round turn ≡ Some core → slice_get m.cores core ≡ Some a → a.events ≡ []

-- the first of them that has one
pub record IsFirstWaiting (m : Moment) (round : List ℕ) (core : ℕ) : Type 0 where
  pub turn : ℕ
  pub at : AtCore
  pub is_it : slice_get round turn ≡ Some core
  pub is_core : slice_get m.cores core ≡ Some at
  pub some : at.events ≢ []
  pub before : HaveNone m (take turn round)

-- The first core with an event, from the core where a worker's round stands on, is one of the worker's, and in turn.
abbrev pub RoundsAreInTurn : Type 0
RoundsAreInTurn = (s : Setup) (m : Moment) (w : ℕ) (x : AtWorker) (core : ℕ) → Holds s m → slice_get m.workers w ≡ Some x
    → IsFirstWaiting m (round_of s w x m) core → (core % length s.handlers ≡ w) × IsInTurn s w x m core

-- And where the round has none, none waits for the worker.
abbrev pub RoundsMissNone : Type 0
RoundsMissNone = (s : Setup) (m : Moment) (w : ℕ) (x : AtWorker) → Holds s m → slice_get m.workers w ≡ Some x → HaveNone m (round_of s w x m) → NoneWaits s w m
