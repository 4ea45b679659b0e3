-- What is due first of a core.
use Rattle.std.specs.Prelude.{◌≡◌, ℕ, Option, Some, None, slice_get}
use Rattle.streamdefs.specs.Terms.{Terms}
use Rattle.streamdefs.specs.Core.{Core, Due, Open}
use Rattle.convo.specs.Talk.{due_of}
use Rattle.coretable.specs.Course.{due_by}

-- of the conversation that stands at a place
pub record IsDueThere (t : Terms) (core : Core) (now place : ℕ) : Type 0 where
  pub one : Open
  pub due : Due
  pub there : slice_get core.convos place ≡ Some one
  pub own : due.conv ≡ one.id
  pub falls : due_of t one.convo ≡ Some (due.at, due.idle)
  pub first : due_by t core now ≡ Some due

-- up to a moment: of that conversation, or nothing
abbrev pub IsDueFirst : Terms → Core → ℕ → Option ℕ → Type 0
IsDueFirst t core now None = due_by t core now ≡ None
IsDueFirst t core now (Some place) = IsDueThere t core now place
