-- What follows of a drill, each law the contract of a function of src/drills.rt.
use Rattle.std.specs.Prelude.{◌≡◌, ℕ, ◌≤◌, ◌⊎◌, List, [], length, map, Option, Some, slice_get}
use Rattle.streamdefs.specs.Packet.{Packet}
use Rattle.streamdefs.specs.Case.{numbers}
use Rattle.streamdefs.specs.Lawful.{Lawful}
use Rattle.streamdefs.specs.Order.{OneHistory}
use Rattle.coretable.specs.Course.{step}
use Rattle.coretable.specs.Course.Step.{Stops}
use Rattle.coretable.specs.Course.Stop.{Rests, Finishes}
use Rattle.mixrun.specs.Moment.{Setup, AtCore, Moment}
use Rattle.mixrun.specs.Steps.{opening}
use Rattle.mixrun.specs.Ledger.{AreMarks}
use Rattle.mixrun.specs.AtEnd.{run_of, AllOver, AllIdle}
use Rattle.mixrun.specs.Holds.{Holds}
use Rattle.mixrun.specs.Schedule.{AreAllIdle}
use Rattle.mixrun.specs.Drill.{Offer, Drilled, coming, offers_of, AreBehind, AreAccepted, share_of}

-- the moment, what is offered, and the seed, if there is one, determine where a drill ends
abbrev pub DrillsAreDetermined : Type 0
DrillsAreDetermined = (s : Setup) (seed : Option ℕ) (offers : List Offer) (m n k : Moment) → Drilled s seed offers m n → Drilled s seed offers m k → n ≡ k

-- what holds at every moment holds at its end
abbrev pub DrillsHold : Type 0
DrillsHold = (s : Setup) (seed : Option ℕ) (offers : List Offer) (packets : ℕ → List Packet) (m n : Moment) → AreMarks s.terms.marks → AreBehind s packets (λ c. coming c offers) m
    → Drilled s seed offers m n → Holds s m → Holds s n

-- Where every actor is idle, each core is over, or ready with nothing to load: none is full, no event waits, and none is in hand.
pub record IsStill (s : Setup) (a : AtCore) : Type 0 where
  pub rests : (step s.terms a.course ≡ Stops Finishes) ⊎ ((step s.terms a.course ≡ Stops Rests) × (a.inputs ≡ []))
  pub events : a.events ≡ []
  pub answers : a.answers ≡ []

abbrev pub IdleIsStill : Type 0
IdleIsStill = (s : Setup) (m : Moment) → 1 ≤ length s.handlers → Holds s m → AreAllIdle s m → AllIdle m × ((c : ℕ) (a : AtCore) → slice_get m.cores c ≡ Some a → IsStill s a)

-- The drill of a capture ends with a lawful journal for the packets of each core; where nothing is used, it is one history of its budget.
pub record IsWhole (s : Setup) (core_of : Packet → ℕ) (cores : ℕ) (packets : List Packet) (n : Moment) : Type 0 where
  pub over : AllOver s n
  pub lawful : Lawful (run_of s n)
  pub arrivals : (run_of s n).arrivals ≡ map (share_of core_of packets) (numbers 0 cores)
  pub history : n.pair.used ≡ 0 → OneHistory (run_of s n)

abbrev pub DrillsAreWhole : Type 0
DrillsAreWhole = (s : Setup) (seed : Option ℕ) (core_of : Packet → ℕ) (cores : ℕ) (packets : List Packet) (n : Moment) → AreMarks s.terms.marks → 1 ≤ length s.handlers → AreAccepted s.last 0 0 packets
    → Drilled s seed (offers_of core_of cores s.last packets) (opening cores (length s.handlers)) n → IsWhole s core_of cores packets n
