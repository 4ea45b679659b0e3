-- What the index of moments says is due first.
use Rattle.std.specs.Prelude.{◌≡◌, refl, ℕ, List, Option, None, Some, slice_get, Result, Ok, Err, IfOk}
use Rattle.std.proofs.Common.{ap, subst}
use Rattle.deadlines.specs.Dues.{Dues, IsFirstDue}
use Rattle.streamdefs.specs.Terms.{Terms}
use Rattle.streamdefs.specs.Core.{Open}
use Rattle.coretable.specs.Course.{Course, core_of}
use Rattle.coretable.specs.Falling.{IsDueThere}
use Rattle.coretable.specs.Moments.{IsDueAt}
use Rattle.coretable.specs.Orderly.{Rises}
use Rattle.coretable.specs.Standing.{Keeps, IsDueIn, AreDue, hole_of, present, with_under}
use Rattle.coretable.specs.declared.desk.Desk.{Desk}
use Rattle.convo.specs.Talk.{Talk, Phase}
use Rattle.coretable.proofs.FirstDues.{due_there, the_due}

all_there : (t : Terms) (index : Dues) (os : List Open) → AreDue t None os index → (place : ℕ) → IsDueAt t index place (slice_get os place)
all_there t index os h place = by (slice_get os place) (h place)
  where
    by : (got : Option Open) → IsDueIn t None index place got → IsDueAt t index place got
    by None e = e
    by (Some o) e = e refl

pub dues_kept : {D : Type 0} (Stands : D → Talk → Phase → Type 0) (t : Terms) (m : Course) (desk : Desk D) → m.under ≡ None → Keeps Stands t m desk → (place : ℕ) → IsDueAt t desk.dues place (slice_get (core_of t m).convos place)
dues_kept Stands t m desk e k =
    all_there t desk.dues (core_of t m).convos
    (subst (λ l. AreDue t None l desk.dues) (ap (with_under t (core_of t m)) e) (subst (λ h. AreDue t h (present t m) desk.dues) (ap hole_of e) k.dues))

pub first_there : (t : Terms) (m : Course) (index : Dues) (now at place : ℕ) → Rises 0 (core_of t m).convos → ((place : ℕ) → IsDueAt t index place (slice_get (core_of t m).convos place)) → IsFirstDue index now (Some (at, place))
    → IsDueThere t (core_of t m) now place
first_there t m index now at place rises h first =
    let f = due_there t (core_of t m) index now at place h first in
    record { one = f.one; due = record { at = f.due.0; conv = f.one.id; idle = f.due.1 }; there = f.there; own = refl; falls = f.due_is; first = the_due t (core_of t m) index now at place rises h first f }

-- a premise may come later
pub given_later : {A E P : Type 0} (Q : A → Type 0) (r : Result A E) → (P → IfOk r Q) → IfOk r (λ v. P → Q v)
given_later Q (Ok v) f = f
given_later Q (Err e) f = tt
