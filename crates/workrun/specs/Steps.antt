-- What a worker does with the event in hand, by what it keeps of it.
use Rattle.std.specs.Prelude.{◌≡◌, ⊤, ℕ, ◌+◌, Bool, false, List, [], ◌∷◌, ◌++◌, map, take, drop, length, Option, Some, None}
use Rattle.prio_budget.specs.declared.free.Free.{Free}
use Rattle.prio_budget.specs.History.{total}
use Rattle.scap_world.specs.Contents.{extended}
use Rattle.evring.specs.declared.event.Event.{Event}
use Rattle.evring.specs.Charges.{charges_in}
use Rattle.streamdefs.specs.Handler.{event_line}
use Rattle.streamdefs.specs.Lawful.{Handler}
use Rattle.handler.specs.Seen.{conv_of, seen_in}
use Rattle.workrun.specs.declared.release.Release.{Release}
use Rattle.workrun.specs.declared.scribe.Scribe.{Scribe}
use Rattle.workrun.specs.declared.work.Work.{Work}
use Rattle.workrun.specs.declared.work.Work.TheVariants.{Nothing, Loaded, Releases, Waits}
use Rattle.workrun.specs.declared.work_turn.WorkTurn.{WorkTurn}
use Rattle.workrun.specs.AtWork.{Hand, IsWork, Lowers, begun_behind, charges_out, core_behind, frees_behind, hand_behind, pause_of, stated_of, taken}
use Rattle.workrun.specs.InWork.{FitsHand, charges_of_work, core_in, frees_in, has_begun, left_in, pause_in, things}
use Rattle.workrun.specs.Outgoing.{charges_left}
use Rattle.workrun.specs.Pause.Pause.{Still}

-- In every mode

-- what stands behind a turn for an event: of a core, with releases done for it and charges that are here
pub record Turned {C : Type 0} (amount stamp : C → ℕ) (core : ℕ) (frees : List Free) (charges : List C) (calm : Bool) (work : Work C) (turn : WorkTurn C) : Type 0 where
  pub fits : FitsHand (Some core) frees calm turn
  pub core_is : core_in work ≡ core_behind (Some core) turn
  pub frees_are : frees_in work ≡ frees_behind frees turn
  pub pause : pause_in work ≡ pause_of amount stamp turn
  pub charges_are : charges ≡ charges_out turn ++ charges_of_work work
  pub weight_is : (by : C → ℕ) → total by charges ≡ total by (charges_out turn) + total by (charges_of_work work)
  pub left_is : Lowers (things (length charges) 0) (left_in work) turn
  pub begun_is : has_begun work ≡ begun_behind turn

-- what stands behind a fault: the event is in hand as it was
pub record Stayed {C : Type 0} (core : ℕ) (frees : List Free) (charges : List C) (work : Work C) : Type 0 where
  pub core_is : core_in work ≡ Some core
  pub frees_are : frees_in work ≡ frees
  pub pause : pause_in work ≡ Still
  pub charges_are : charges_of_work work ≡ charges
  pub left_is : left_in work ≡ things (length charges) 0
  pub begun_is : has_begun work ≡ false

-- a charge is out of an event's, with all else as it was
abbrev pub IsOut : {C : Type 0} → (bytes granted : ℕ) → Release C → Work C → Type 0
IsOut bytes granted before (Waits b g r) = (b ≡ bytes) × (g ≡ granted) × (r.core ≡ before.core) × (r.advice ≡ before.advice) × (r.frees.items ≡ before.frees.items) × (r.left ≡ before.left)
IsOut bytes granted before _ = ⊥

-- Outside drain mode

-- An event of which the handler was told, and whose chunks it doesn't keep: those of its charges that are out or left come behind
-- those whose releases are done, which gave back their bytes.
pub record IsReleasing {C : Type 0} (amount : C → ℕ) (handler : Handler) (h : Hand C) (r : Release C) (out : List C) : Type 0 where
  pub core : r.core ≡ h.core
  pub advice : h.advice ≡ Some r.advice
  pub stated : r.advice ≡ stated_of handler h.event
  pub gives : r.advice.keep ≡ false
  pub frees : r.frees.items ≡ h.frees
  pub left : out ++ charges_left r.left ≡ drop (length h.frees) (charges_in h.event)
  pub paid : map (λ free. free.bytes) h.frees ≡ map amount (take (length h.frees) (charges_in h.event))

-- one charge of it is out, of so many bytes and granted at that stamp
pub record IsWaiting {C : Type 0} (amount stamp : C → ℕ) (handler : Handler) (h : Hand C) (bytes granted : ℕ) (r : Release C) : Type 0 where
  pub charge : C
  pub bytes_are : amount charge ≡ bytes
  pub stamp_is : stamp charge ≡ granted
  pub releasing : IsReleasing amount handler h r (charge ∷ [])

-- what is kept of the event in hand
abbrev pub HasInHand : {C : Type 0} → (amount stamp : C → ℕ) → Handler → Option (Hand C) → Work C → Type 0
HasInHand amount stamp handler None Nothing = ⊤
HasInHand amount stamp handler (Some h) (Loaded core event) = h ≡ taken core event
HasInHand amount stamp handler (Some h) (Releases r) = IsReleasing amount handler h r []
HasInHand amount stamp handler (Some h) (Waits bytes granted r) = IsWaiting amount stamp handler h bytes granted r
HasInHand amount stamp handler _ _ = ⊥

-- a turn is what is to be done for the event in hand, and what is kept behind it is that of the event
pub record Worked {C : Type 0} (amount stamp : C → ℕ) (handler : Handler) (h : Hand C) (work : Work C) (turn : WorkTurn C) : Type 0 where
  pub is_work : IsWork amount handler (Some h) turn
  pub hand : HasInHand amount stamp handler (hand_behind handler (Some h) turn) work

-- an event was told: its line is in the sink, its core in the list, and the turn is the first for it
pub record Served {H K C : Type 0} (amount stamp : C → ℕ) (stated : H → Handler) (held : K → Option (List ℕ)) (before after : Scribe H K) (core : ℕ) (event : Event C) (work : Work C) (turn : WorkTurn C) : Type 0 where
  pub worked : Worked amount stamp (stated before.handler) (taken core event) work turn
  pub line : held after.sink ≡ extended (held before.sink) (event_line (conv_of event) (seen_in event))
  pub list : after.served ≡ before.served ++ core ∷ []
