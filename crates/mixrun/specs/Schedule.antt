-- Runs of the machine by schedules: actors in turn, and the actors that a seed names.
use Rattle.std.specs.Prelude.{◌≡◌, ◌≢◌, ℕ, zero, suc, ◌+◌, ◌*◌, ◌/◌, ◌%◌, ◌^◌, ◌≤◌, ◌⊎◌, cond, nat_lt, List, [], ◌∷◌, ◌++◌, length, map, Option, Some, None, slice_get}
use Rattle.streamdefs.specs.Terms.{Terms}
use Rattle.coretable.specs.Course.{Under, step}
use Rattle.coretable.specs.Course.Step.{Stops}
use Rattle.coretable.specs.Course.Stop.{Fills, Rests, Finishes}
use Rattle.mixrun.specs.declared.actor.Actor.{Actor}
use Rattle.mixrun.specs.declared.actor.Actor.TheVariants as actors
use Rattle.mixrun.specs.Moment.{Setup, AtCore, AtWorker, Moment}
use Rattle.mixrun.specs.Steps.{Steps, TakesOne, GivesOne, AnswersOne}

-- The actors

-- so many actors of a kind, from one number on
abbrev pub numbered : (ℕ → Actor) → (from count : ℕ) → List Actor
numbered kind from zero = []
numbered kind from (suc count) = kind from ∷ numbered kind (suc from) count

-- all of them in their order: each core's answers, the workers, the cores
abbrev pub actors_of : (cores workers : ℕ) → List Actor
actors_of cores workers = numbered actors.Back 0 cores ++ numbered actors.Work 0 workers ++ numbered actors.Core 0 cores

abbrev pub actors_at : Moment → List Actor
actors_at m = actors_of (length m.cores) (length m.workers)

-- Who is idle

-- a core whose table is full, or over, or ready where no input waits
abbrev pub IsCoreIdle : Terms → AtCore → Type 0
IsCoreIdle terms a = (step terms a.course ≡ Stops Fills) ⊎ (step terms a.course ≡ Stops Finishes) ⊎ ((step terms a.course ≡ Stops Rests) × (a.inputs ≡ []))

-- a core's answers, where there is none, or the table is not at rest
abbrev pub IsBackIdle : AtCore → Type 0
IsBackIdle a = (a.answers ≡ []) ⊎ ((u : Under) × (a.course.under ≡ Some u))

-- no event waits for a worker
abbrev pub NoneWaits : Setup → ℕ → Moment → Type 0
NoneWaits s w m = (c : ℕ) (a : AtCore) → slice_get m.cores c ≡ Some a → c % length s.handlers ≡ w → a.events ≡ []

-- an actor is idle; a worker is where it has no event in hand, and none waits for it
abbrev pub IsIdle : Setup → Moment → Actor → Type 0
IsIdle s m (actors.Back c) = (a : AtCore) → slice_get m.cores c ≡ Some a → IsBackIdle a
IsIdle s m (actors.Work w) = (x : AtWorker) → slice_get m.workers w ≡ Some x → (x.hand ≡ None) × NoneWaits s w m
IsIdle s m (actors.Core c) = (a : AtCore) → slice_get m.cores c ≡ Some a → IsCoreIdle s.terms a

abbrev pub AreAllIdle : Setup → Moment → Type 0
AreAllIdle s m = (actor : Actor) → IsIdle s m actor

-- Who does what

-- the last of some numbers
abbrev pub last_of : List ℕ → Option ℕ
last_of [] = None
last_of (x ∷ []) = Some x
last_of (x ∷ y ∷ ys) = last_of (y ∷ ys)

-- the place of a core in a round that begins behind the core of the event that was in hand last
abbrev pub round_place : Option ℕ → (cores core : ℕ) → ℕ
round_place None cores core = core
round_place (Some last) cores core = cond (nat_lt last core) core (core + cores)

-- a worker takes the event of this core: of its cores that have one none comes before it in the worker's round
abbrev pub IsInTurn : Setup → ℕ → AtWorker → Moment → ℕ → Type 0
IsInTurn s w x m core = (d : ℕ) (a : AtCore) → slice_get m.cores d ≡ Some a → d % length s.handlers ≡ w → a.events ≢ []
    → round_place (last_of x.served) (length m.cores) core ≤ round_place (last_of x.served) (length m.cores) d

-- the step of an actor; a worker goes round its cores
abbrev pub Acts : Setup → Actor → Moment → Moment → Type 0
Acts s (actors.Back c) m n = Steps s (actors.Back c) m n
Acts s (actors.Work w) m n = ((t : TakesOne s w m n) × IsInTurn s w t.worker m t.core) ⊎ GivesOne s w m n ⊎ AnswersOne s w m n
Acts s (actors.Core c) m n = Steps s (actors.Core c) m n

-- A run by a schedule of actors, of which so many moved: each makes its step, or is idle.
abbrev pub Runs : Setup → List Actor → Moment → (moved : ℕ) → Moment → Type 0
Runs s [] m moved n = (moved ≡ 0) × (n ≡ m)
Runs s (actor ∷ schedule) m moved n =
    ((k : Moment) × (left : ℕ) × Acts s actor m k × (moved ≡ suc left) × Runs s schedule k left n) ⊎ (IsIdle s m actor × Runs s schedule m moved n)

-- Names in place of actors: where the named one is idle, another one makes the step.

-- the first of these actors that isn't idle makes its step
abbrev pub FirstActs : Setup → List Actor → Moment → Moment → Type 0
FirstActs s [] m n = ⊥
FirstActs s (actor ∷ others) m n = Acts s actor m n ⊎ (IsIdle s m actor × FirstActs s others m n)

-- the named one does, or, where it is idle, the first one that isn't
abbrev pub ActsFor : Setup → List Actor → Actor → Moment → Moment → Type 0
ActsFor s all name m n = Acts s name m n ⊎ (IsIdle s m name × FirstActs s all m n)

-- a step for each name
abbrev pub Follows : Setup → (all names : List Actor) → Moment → Moment → Type 0
Follows s all [] m n = n ≡ m
Follows s all (name ∷ names) m n = (k : Moment) × ActsFor s all name m k × Follows s all names k n

-- What a seed names

-- the generator's state behind one more draw: a linear congruential sequence over 64 bits
unfoldable pub drawn : ℕ → ℕ
drawn state = (state * 6364136223846793005 + 1442695040888963407) % 2 ^ 64

-- the number below k of a draw, by the state behind it: its high half
unfoldable pub number_below : (k state : ℕ) → ℕ
number_below k state = state / 2 ^ 32 % k

-- the states behind so many draws, and the last of them
abbrev pub states : (state count : ℕ) → List ℕ
states state zero = []
states state (suc count) = drawn state ∷ states (drawn state) count

abbrev pub state_behind : (state count : ℕ) → ℕ
state_behind state zero = state
state_behind state (suc count) = state_behind (drawn state) count

-- the actor that a draw names: the one at the drawn place among all
abbrev pub named : List Actor → (state : ℕ) → Actor
named all state = at (slice_get all (number_below (length all) state))
  where
    at : Option Actor → Actor
    at (Some actor) = actor
    at None = actors.Back 0

-- those that so many draws name
abbrev pub names_by : List Actor → (state count : ℕ) → List Actor
names_by all state count = map (named all) (states state count)

-- A run by a seed: a draw and a step by its name, until every actor is idle; with the state of the generator behind it.
pub record Seeded (s : Setup) (state : ℕ) (m : Moment) (behind : ℕ) (n : Moment) : Type 0 where
  pub count : ℕ
  pub follows : Follows s (actors_at m) (names_by (actors_at m) state count) m n
  pub idle : AreAllIdle s n
  pub state_is : behind ≡ state_behind state count

-- Steps, whoever makes them

-- so many steps of the machine lead from one moment to another
abbrev pub Reaches : Setup → ℕ → Moment → Moment → Type 0
Reaches s zero m n = n ≡ m
Reaches s (suc count) m n = (k : Moment) × (actor : Actor) × Steps s actor m k × Reaches s count k n
