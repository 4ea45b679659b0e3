-- What follows of runs by schedules, each law the contract of a function of src/laws.rt.
use Rattle.std.specs.Prelude.{◌≡◌, ℕ, ◌≤◌, List, length}
use Rattle.mixrun.specs.declared.actor.Actor.{Actor}
use Rattle.mixrun.specs.Moment.{Setup, Moment}
use Rattle.mixrun.specs.Steps.{Steps}
use Rattle.mixrun.specs.Ledger.{AreMarks}
use Rattle.mixrun.specs.Schedule.{IsIdle, Acts, Runs, Seeded, Reaches}
use Rattle.mixrun.specs.Holds.{Holds}

-- an idle actor has no step
abbrev pub IdleHasNoStep : Type 0
IdleHasNoStep = (s : Setup) (m n : Moment) (actor : Actor) → IsIdle s m actor → Steps s actor m n → ⊥

-- an actor's step is one of the machine, and there is no other that it makes
abbrev pub ActsByAStep : Type 0
ActsByAStep = (s : Setup) (m n : Moment) (actor : Actor) → Acts s actor m n → Steps s actor m n

abbrev pub ActsInOneWay : Type 0
ActsInOneWay = (s : Setup) (m n k : Moment) (actor : Actor) → Acts s actor m n → Acts s actor m k → n ≡ k

-- so a moment and a schedule determine what moves and where it ends
abbrev pub SchedulesDetermine : Type 0
SchedulesDetermine = (s : Setup) (schedule : List Actor) (m : Moment) (moved others : ℕ) (n k : Moment) → Runs s schedule m moved n → Runs s schedule m others k → (moved ≡ others) × (n ≡ k)

-- and a moment and a seed do
abbrev pub SeedsDetermine : Type 0
SeedsDetermine = (s : Setup) (state : ℕ) (m : Moment) (behind other : ℕ) (n k : Moment) → Seeded s state m behind n → Seeded s state m other k → (behind ≡ other) × (n ≡ k)

-- A run in which so many moved is so many steps of the machine, and one by a seed is some.
abbrev pub RunsReach : Type 0
RunsReach = (s : Setup) (schedule : List Actor) (m n : Moment) (moved : ℕ) → Runs s schedule m moved n → Reaches s moved m n × (moved ≤ length schedule)

abbrev pub SeedsReach : Type 0
SeedsReach = (s : Setup) (state : ℕ) (m n : Moment) (behind : ℕ) → (run : Seeded s state m behind n) → Reaches s run.count m n

-- what holds at a moment holds wherever steps lead
abbrev pub StepsLeadOn : Type 0
StepsLeadOn = (s : Setup) (m n : Moment) (count : ℕ) → AreMarks s.terms.marks → Reaches s count m n → Holds s m → Holds s n
