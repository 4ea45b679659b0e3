-- What is known of an event of which a charge is out.
use Rattle.std.proofs.Common.{◌≡◌, ℕ, ◌+◌, ◌-◌, ◌<◌, ◌≤◌, length, ap, ◌∙◌, sym, subst, arith, vec_len}
use Rattle.std.specs.Vec.{vec_capacity}
use Rattle.workrun.specs.declared.release.Release.{Release}
use Rattle.workrun.specs.declared.work.Work.{Work}
use Rattle.workrun.specs.declared.work.Work.TheVariants.{Waits}
use Rattle.workrun.specs.InWork.{pause_in, places_in, places_of, places_wanted}
use Rattle.workrun.specs.Outgoing.{charges_left}
use Rattle.workrun.specs.Pause.Pause.{Freeing}

-- its bytes are those that are waited for
pub awaited_bytes : {C : Type 0} (work : Work C) (bytes granted : ℕ) (r : Release C) (b g : ℕ) → work ≡ Waits bytes granted r → pause_in work ≡ Freeing b g → b ≡ bytes
awaited_bytes {C} work bytes granted r b g ew h =
    let e : Freeing bytes granted ≡ Freeing b g = sym (ap (λ (k : Work C). pause_in k) ew) ∙ h in
    cc

-- there is a place for its release, and for those of the charges behind it
pub places_there : {C : Type 0} (work : Work C) (bytes granted : ℕ) (r : Release C) → work ≡ Waits bytes granted r → places_wanted work ≤ places_in work → length (charges_left r.left) < places_of r
places_there {C} work bytes granted r ew h =
    let q : 1 + length (charges_left r.left) ≤ places_of r = subst (λ (k : Work C). places_wanted k ≤ places_in k) ew h in
    omega arith

pub room_there : {C : Type 0} (work : Work C) (bytes granted : ℕ) (r : Release C) → work ≡ Waits bytes granted r → places_wanted work ≤ places_in work → vec_len r.frees < vec_capacity r.frees
room_there {C} work bytes granted r ew h =
    let q : length (charges_left r.left) < vec_capacity r.frees - vec_len r.frees = places_there work bytes granted r ew h in
    omega arith
