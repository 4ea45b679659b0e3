-- What stands where no event is in hand.
use Rattle.std.proofs.Common.{◌≡◌, ℕ, [], refl}
use Rattle.std.specs.Prelude.{None}
use Rattle.prio_budget.specs.History.{total}
use Rattle.workrun.specs.declared.work.Work.{Work}
use Rattle.workrun.specs.declared.work.Work.TheVariants.{Nothing, Loaded, Releases, Waits}
use Rattle.workrun.specs.InWork.{charges_of_work, core_in, frees_in, left_in}

-- nothing is left of an event
pub nothing_left : {C : Type 0} (work : Work C) → core_in work ≡ None → (frees_in work ≡ []) × (charges_of_work work ≡ []) × (left_in work ≡ 0)
nothing_left Nothing e = (refl, refl, refl)
nothing_left (Loaded core event) e = absurd (cc)
nothing_left (Releases release) e = absurd (cc)
nothing_left (Waits bytes stamp release) e = absurd (cc)

-- and nothing weighs
pub nothing_weighs : {C : Type 0} (by : C → ℕ) (work : Work C) → core_in work ≡ None → total by (charges_of_work work) ≡ 0
nothing_weighs by Nothing e = refl
nothing_weighs by (Loaded core event) e = absurd (cc)
nothing_weighs by (Releases release) e = absurd (cc)
nothing_weighs by (Waits bytes stamp release) e = absurd (cc)
