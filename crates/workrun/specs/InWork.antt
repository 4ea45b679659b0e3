-- What is seen of what a worker has in hand, in every mode.
use Rattle.std.specs.Prelude.{◌≡◌, ⊤, ℕ, ◌+◌, ◌*◌, ◌-◌, Bool, true, false, not, List, [], length, Option, Some, None, vec_len}
use Rattle.std.specs.Vec.{vec_capacity}
use Rattle.prio_budget.specs.declared.free.Free.{Free}
use Rattle.evring.specs.Advice.{no_advice}
use Rattle.evring.specs.Charges.{charges_in}
use Rattle.workrun.specs.declared.release.Release.{Release}
use Rattle.workrun.specs.declared.work.Work.{Work}
use Rattle.workrun.specs.declared.work.Work.TheVariants.{Nothing, Loaded, Releases, Waits}
use Rattle.workrun.specs.declared.work_turn.WorkTurn.{WorkTurn}
use Rattle.workrun.specs.declared.work_turn.WorkTurn.TheVariants as turns
use Rattle.workrun.specs.Outgoing.{charges_left}
use Rattle.workrun.specs.Pause.{Pause}
use Rattle.workrun.specs.Pause.Pause.{Still, Freeing}

-- what it waits for
abbrev pub pause_in : {C : Type 0} → Work C → Pause
pause_in (Waits bytes stamp release) = Freeing bytes stamp
pause_in _ = Still

-- the core of the event
abbrev pub core_in : {C : Type 0} → Work C → Option ℕ
core_in Nothing = None
core_in (Loaded core event) = Some core
core_in (Releases release) = Some release.core
core_in (Waits bytes stamp release) = Some release.core

-- the releases done for it
abbrev pub frees_in : {C : Type 0} → Work C → List Free
frees_in Nothing = []
frees_in (Loaded core event) = []
frees_in (Releases release) = release.frees.items
frees_in (Waits bytes stamp release) = release.frees.items

-- its charges that are still here
abbrev pub charges_of_work : {C : Type 0} → Work C → List C
charges_of_work Nothing = []
charges_of_work (Loaded core event) = charges_in event
charges_of_work (Releases release) = charges_left release.left
charges_of_work (Waits bytes stamp release) = charges_left release.left

-- its charges go out: the first turn for it is done
abbrev pub has_begun : {C : Type 0} → Work C → Bool
has_begun (Releases release) = true
has_begun (Waits bytes stamp release) = true
has_begun _ = false

-- what is left to do for an event of which so many charges are here and so many out: to give each of them out, to release it,
-- and to answer
abbrev pub things : (here out : ℕ) → ℕ
things here out = 1 + out + 2 * here

abbrev pub left_in : {C : Type 0} → Work C → ℕ
left_in Nothing = 0
left_in (Loaded core event) = things (length (charges_in event)) 0
left_in (Releases release) = things (length (charges_left release.left)) 0
left_in (Waits bytes stamp release) = things (length (charges_left release.left)) 1

-- Places for releases

-- how many releases can be put down without memory
abbrev pub places_of : {C : Type 0} → Release C → ℕ
places_of release = vec_capacity release.frees - vec_len release.frees

abbrev pub places_in : {C : Type 0} → Work C → ℕ
places_in (Releases release) = places_of release
places_in (Waits bytes stamp release) = places_of release
places_in _ = 0

-- how many are wanted: one for each charge that is left, and one for the charge that is out
abbrev pub places_wanted : {C : Type 0} → Work C → ℕ
places_wanted (Releases release) = length (charges_left release.left)
places_wanted (Waits bytes stamp release) = 1 + length (charges_left release.left)
places_wanted _ = 0

-- A turn fits the event in hand. An answer goes to its core, with the releases done for it, and is one of drain mode where the
-- worker is in drain mode; then it wants nothing and brings nothing back. Nothing is to be done exactly where there is no event.
abbrev pub FitsHand : {C : Type 0} → Option ℕ → List Free → Bool → WorkTurn C → Type 0
FitsHand (Some c) frees calm (turns.Answer core answer) =
    (core ≡ c) × (answer.frees ≡ frees) × (answer.drained ≡ not calm) × (calm ≡ false → (answer.advice ≡ no_advice) × (answer.kept ≡ []))
FitsHand (Some c) frees calm (turns.Free charge) = ⊤
FitsHand None frees calm turns.Ready = ⊤
FitsHand _ frees calm _ = ⊥
