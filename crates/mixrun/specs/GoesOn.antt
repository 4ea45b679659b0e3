-- What the layers below have to give, so that each actor that isn't idle has a move.
use Rattle.std.specs.Prelude.{◌≡◌, ℕ, ◌^◌, ◌<◌, ◌≤◌, ◌⊎◌, Some, slice_get}
use Rattle.streamdefs.specs.View.{Ask}
use Rattle.streamdefs.specs.Reorder.{Charge}
use Rattle.streamdefs.specs.Lawful.{handler_at}
use Rattle.streamdefs.specs.Want.Want.{Reserve, Release}
use Rattle.coretable.specs.Course.{Course, Stop, step, Comes}
use Rattle.coretable.specs.Course.Step.{Stops}
use Rattle.coretable.specs.Course.Stop.{Wants}
use Rattle.mixrun.specs.declared.actor.Actor.{Actor}
use Rattle.mixrun.specs.Moment.{Setup, Input, AtCore, InHand, AtWorker, Pair, Moment}
use Rattle.mixrun.specs.Moves.{CoreMove, moved, next_owed}
use Rattle.mixrun.specs.Steps.{MayMove, Steps, Offers, opening}
use Rattle.mixrun.specs.Schedule.{IsIdle, Acts}
use Rattle.mixrun.specs.Holds.{Holds}

-- a charge that is out: it was granted before, and its bytes are among those in use
abbrev pub IsOut : Pair → Charge → Type 0
IsOut p charge = (charge.bytes ≤ p.used) × (charge.stamp < p.stamp)

-- The budget has a stamp left for a core that asks. What a core, or a worker, gives back next is out. And a table comes to a stop
-- behind each move that its core may make: it does not go on by itself for ever.
pub record CanGoOn (s : Setup) (m : Moment) : Type 0 where
  pub stamps : (c : ℕ) (a : AtCore) (ask : Ask) (mark : ℕ) → slice_get m.cores c ≡ Some a → step s.terms a.course ≡ Stops (Wants (Reserve ask mark)) → m.pair.stamp < 2 ^ 31
  pub releases : (c : ℕ) (a : AtCore) (charge : Charge) → slice_get m.cores c ≡ Some a → step s.terms a.course ≡ Stops (Wants (Release charge)) → IsOut m.pair charge
  pub owed : (w : ℕ) (x : AtWorker) (h : InHand) (charge : Charge) → slice_get m.workers w ≡ Some x → x.hand ≡ Some h → next_owed (handler_at s.handlers w) h ≡ Some charge → IsOut m.pair charge
  pub settles : (c : ℕ) (a : AtCore) (move : CoreMove) → slice_get m.cores c ≡ Some a → MayMove s.terms m.pair a move
      → (n : ℕ) × (stop : Stop) × (there : Course) × Comes s.terms n (moved s.terms move a).course stop there

-- no table is about to go on by itself
abbrev pub HaveStopped : Setup → Moment → Type 0
HaveStopped s m = (c : ℕ) (a : AtCore) → slice_get m.cores c ≡ Some a → (stop : Stop) × (step s.terms a.course ≡ Stops stop)

-- none is at first, and each step and each offer leaves it so
abbrev pub StoppedAtFirst : Type 0
StoppedAtFirst = (s : Setup) (cores workers : ℕ) → HaveStopped s (opening cores workers)

abbrev pub StepsStop : Type 0
StepsStop = (s : Setup) (m n : Moment) (actor : Actor) → Steps s actor m n → HaveStopped s m → HaveStopped s n

abbrev pub OffersStop : Type 0
OffersStop = (s : Setup) (m n : Moment) (c : ℕ) (input : Input) → Offers c input m n → HaveStopped s m → HaveStopped s n

-- an actor makes a step, and there is no other that it makes
abbrev pub ActsOnce : Setup → Actor → Moment → Type 0
ActsOnce s actor m = (n : Moment) × Acts s actor m n × ((k : Moment) → Acts s actor m k → k ≡ n)

-- So each actor is idle or makes exactly one step.
abbrev pub EachGoesOn : Type 0
EachGoesOn = (s : Setup) (m : Moment) (actor : Actor) → Holds s m → HaveStopped s m → CanGoOn s m → IsIdle s m actor ⊎ ActsOnce s actor m
